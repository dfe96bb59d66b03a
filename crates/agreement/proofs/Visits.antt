-- The evaluator is metered: a line for each form, in the evaluator's own shape. From that, the number of visits is exact.
use Rattle.std.proofs.Common.{◌≡◌, ℕ, ◌+◌, ◌-◌, ◌<◌, ◌≤◌, true, false, ◌⊎◌, [], ◌∷◌, sym, refl, ap, ◌∙◌, subst, inl, inr, zero-add, arith}
use native.Mathlib.Decide.{dec_le}
use Rattle.vocabulary.specs.declared.end.End.{End}
use Rattle.vocabulary.specs.declared.end.End.TheVariants.{Halt}
use Rattle.vocabulary.specs.declared.value.Value.TheVariants.{Plain as plain}
use Rattle.vocabulary.specs.World.{World, Rules, has_room}
use Rattle.language.specs.Tree.{Command, node_c}
use Rattle.language.specs.Tree.Expression.{number, truth, read, name, operation, function_call, choice}
use Rattle.language.specs.Tree.Command.{assign, output, when, while, block, sequence, procedure_call}
use Rattle.language.specs.Tree.Declaration.{constant, variable, procedure, function, pair}
use Rattle.language.specs.Outcomes.{Outcome, find}
use Rattle.language.specs.Outcomes.Binding.{binding}
use Rattle.language.specs.Outcomes.Denoted.{value}
use Rattle.language.specs.Outcomes.Outcome.{done, ended, cut, lost}
use Rattle.language.specs.Meaning.{course_of, meaning, eval_e, eval_c, eval_d}
use Rattle.language.specs.Meaning.Course.{finished, unfinished, meaningless}
use Rattle.agreement.specs.Agreement.{ExactVisits}
use Rattle.agreement.proofs.Metered.{Left, Longer, Meters, Begins, returns, binds, plainlies, takes, answers, values, puts, tests, locates, functions, procedures, metering}

module _ (R : Rules) where
  begun_e : Begins (eval_e R)
  unfolding eval_e
  begun_e g h l ih (number nd z) bs w = returns
  begun_e g h l ih (truth nd t) bs w = returns
  begun_e g h l ih (read nd) bs w = takes nd w.feed w
  begun_e g h l ih (name nd x) bs w = values (find bs x) w
  begun_e g h l ih (operation nd o a c) bs w =
      binds (plainlies (ih a bs w)) λ x w₁. binds (plainlies (ih c bs w₁)) λ y w₂. answers nd (R.operate o (plain x) (plain y)) w₂
  begun_e g h l ih (function_call nd f a) bs w =
      binds (ih a bs w) λ v w₁. functions (find bs f) λ y t rest. ih t (binding y (value v) ∷ rest) w₁
  begun_e g h l ih (choice nd a c d) bs w =
      binds (plainlies (ih a bs w)) λ x w₁. tests nd x w₁ (elim [ true ↦ ih c bs w₁ | false ↦ ih d bs w₁ ])

  meter_e : (g h : ℕ) → g ≤ h → Meters (eval_e R) g h
  unfolding eval_e
  meter_e = metering (eval_e R) (λ t bs w b. refl) (λ g t bs w. refl) begun_e

  begun_d : Begins (eval_d R)
  unfolding eval_d
  begun_d g h l ih (constant nd x a) bs w = binds (plainlies (meter_e g h l a bs w)) λ p w₁. returns
  begun_d g h l ih (variable nd x a) bs w = binds (plainlies (meter_e g h l a bs w)) λ p w₁. returns
  begun_d g h l ih (procedure nd x t y) bs w = returns
  begun_d g h l ih (function nd x t y) bs w = returns
  begun_d g h l ih (pair nd a c) bs w = binds (ih a bs w) λ bs₁ w₁. ih c bs₁ w₁

  meter_d : (g h : ℕ) → g ≤ h → Meters (eval_d R) g h
  unfolding eval_d
  meter_d = metering (eval_d R) (λ t bs w b. refl) (λ g t bs w. refl) begun_d

  begun_c : Begins (eval_c R)
  unfolding eval_c
  begun_c g h l ih (assign nd a c) bs w =
      binds (meter_e g h l a bs w) λ v w₁. locates nd v w₁ λ i. binds (plainlies (meter_e g h l c bs w₁)) λ p w₂. returns
  begun_c g h l ih (output nd a) bs w =
      binds (plainlies (meter_e g h l a bs w)) λ p w₁. puts nd R p w₁ (has_room R p w₁)
  begun_c g h l ih (when nd a c d) bs w =
      binds (plainlies (meter_e g h l a bs w)) λ x w₁. tests nd x w₁ (elim [ true ↦ ih c bs w₁ | false ↦ ih d bs w₁ ])
  begun_c g h l ih (while nd a c) bs w =
      binds (plainlies (meter_e g h l a bs w)) λ x w₁.
      tests nd x w₁ (elim [ true ↦ binds (ih c bs w₁) (λ u w₂. ih (while nd a c) bs w₂) | false ↦ returns ])
  begun_c g h l ih (block nd d c) bs w =
      binds (meter_d g h l d bs w) λ bs₁ w₁. binds (ih c bs₁ w₁) λ u w₂. returns
  begun_c g h l ih (sequence nd a c) bs w = binds (ih a bs w) λ u w₁. ih c bs w₁
  begun_c g h l ih (procedure_call nd f a) bs w =
      binds (meter_e g h l a bs w) λ v w₁. procedures (find bs f) λ y t rest. ih t (binding y (value v) ∷ rest) w₁

  meter_c : (g h : ℕ) → g ≤ h → Meters (eval_c R) g h
  unfolding eval_c
  meter_c = metering (eval_c R) (λ t bs w b. refl) (λ g t bs w. refl) begun_c

-- what an outcome says of one with j visits more
finished-longer : (nd j : ℕ) (o o' : Outcome (Unit {0})) → Longer j o o' → (e : End) (n : ℕ) (w' : World) (c : ℕ) →
    course_of nd o ≡ finished e n w' c → course_of nd o' ≡ finished e n w' (c + j)
finished-longer nd j (done u w d) o' x e n w' c q =
    let f : finished Halt nd w (d + j) ≡ finished e n w' (c + j) = cc in ap (course_of nd) x ∙ f
finished-longer nd j (ended e₁ n₁ w d) o' x e n w' c q =
    let f : finished e₁ n₁ w (d + j) ≡ finished e n w' (c + j) = cc in ap (course_of nd) x ∙ f
finished-longer nd j (cut w) o' x e n w' c q = let z : ◌≡◌ {A = ℕ} 0 1 = cc in absurd (omega arith)
finished-longer nd j lost o' x e n w' c q = let z : ◌≡◌ {A = ℕ} 0 1 = cc in absurd (omega arith)

left_finished : (P : ℕ → Type 0) (nd : ℕ) (o : Outcome (Unit {0})) → Left P o → (e : End) (n : ℕ) (w' : World) (c : ℕ) → course_of nd o ≡ finished e n w' c → P c
left_finished P nd (done u w d) l e n w' c q = let f : d ≡ c = cc in subst P f l
left_finished P nd (ended e₁ n₁ w d) l e n w' c q = let f : d ≡ c = cc in subst P f l
left_finished P nd (cut w) l e n w' c q = let z : ◌≡◌ {A = ℕ} 0 1 = cc in absurd (omega arith)
left_finished P nd lost l e n w' c q = let z : ◌≡◌ {A = ℕ} 0 1 = cc in absurd (omega arith)

-- and what the one with j visits more says of it: finished alike with j fewer left, or else unfinished
finished_shorter : (nd j : ℕ) (o o' : Outcome (Unit {0})) → Longer j o o' → (e : End) (n : ℕ) (w' : World) (c : ℕ) → course_of nd o' ≡ finished e n w' c →
    ((d : ℕ) × (c ≡ d + j) × (course_of nd o ≡ finished e n w' d)) ⊎ ((c < j) × ((u : World) × (course_of nd o ≡ unfinished u)))
finished_shorter nd j (done u w d) o' x e n w' c q =
    let f : finished Halt nd w (d + j) ≡ finished e n w' c = ap (course_of nd) (sym x) ∙ q in
    let y : d + j ≡ c = cc f in let z : finished Halt nd w d ≡ finished e n w' d = cc f in inl (d, sym y, z)
finished_shorter nd j (ended e₁ n₁ w d) o' x e n w' c q =
    let f : finished e₁ n₁ w (d + j) ≡ finished e n w' c = ap (course_of nd) (sym x) ∙ q in
    let y : d + j ≡ c = cc f in let z : finished e₁ n₁ w d ≡ finished e n w' d = cc f in inl (d, sym y, z)
finished_shorter nd j (cut w) o' x e n w' c q = inr (left_finished (λ d. d < j) nd o' x e n w' c q, (w, refl))
finished_shorter nd j lost o' x e n w' c q =
    let f : meaningless ≡ finished e n w' c = ap (course_of nd) (sym x) ∙ q in let z : ◌≡◌ {A = ℕ} 0 1 = cc f in absurd (omega arith)

module _ (R : Rules) (t : Command) (w : World) where
  by_visits : (k j v : ℕ) → v ≡ k + j → Longer j (eval_c R k t [] w k) (eval_c R v t [] w v)
  by_visits k j v e = subst (λ i. Longer j (eval_c R k t [] w k) (eval_c R v t [] w i)) (sym e) ((meter_c R k v (omega arith) t [] w).longer k j (omega arith))

  with_fewer : (k j v : ℕ) → v ≡ k + j → (e : End) (n : ℕ) (w' : World) (c : ℕ) → meaning R t w v ≡ finished e n w' c →
      ((d : ℕ) × (c ≡ d + j) × (meaning R t w k ≡ finished e n w' d)) ⊎ ((c < j) × ((u : World) × (meaning R t w k ≡ unfinished u)))
  unfolding meaning
  with_fewer k j v h e n w' c q = finished_shorter (node_c t) j (eval_c R k t [] w k) (eval_c R v t [] w v) (by_visits k j v h) e n w' c q

  fewer : (v : ℕ) (e : End) (n : ℕ) (w' : World) → meaning R t w v ≡ finished e n w' 0 → (k : ℕ) → k < v → (u : World) × (meaning R t w k ≡ unfinished u)
  fewer v e n w' q k h =
      elim (with_fewer k (v - k) v (omega arith) e n w' 0 q) [
        | inl d ↦ let f = d.1 in absurd (omega arith)
        | inr d ↦ d.1
      ]

  once : (v k : ℕ) (e f : End) (n m : ℕ) (w' u : World) → meaning R t w v ≡ finished e n w' 0 → meaning R t w k ≡ finished f m u 0 → v ≤ k
  once v k e f n m w' u q r =
      elim (dec_le v k) [
        | yes h ↦ h
        | no h ↦ let x = fewer v e n w' q k (omega arith) in let y : unfinished x.0 ≡ finished f m u 0 = sym x.1 ∙ r in let z : ◌≡◌ {A = ℕ} 0 1 = cc y in absurd (omega arith)
      ]

  more_visits : (v : ℕ) (e : End) (n : ℕ) (w' : World) → meaning R t w v ≡ finished e n w' 0 → (m : ℕ) → meaning R t w (v + m) ≡ finished e n w' m
  unfolding meaning
  more_visits v e n w' q m = finished-longer (node_c t) m _ _ (by_visits v m (v + m) refl) e n w' 0 q ∙ ap (finished e n w') (zero-add m)

  -- an end with visits to spare comes without any to spare too
  pub used_up : (k b : ℕ) (e : End) (n : ℕ) (w' : World) → meaning R t w k ≡ finished e n w' b → (v : ℕ) × (meaning R t w v ≡ finished e n w' 0)
  unfolding meaning
  used_up k b e n w' q =
      let l : b ≤ k = left_finished (λ c. c ≤ k) (node_c t) (eval_c R k t [] w k) ((meter_c R k k (omega arith) t [] w).low k) e n w' b q in (
        k - b,
        elim (with_fewer (k - b) b k (omega arith) e n w' b q) [
          | inl d ↦ let f = d.1 in let g : d.0 ≡ 0 = omega arith in d.2 ∙ ap (finished e n w') g
          | inr d ↦ let f = d.0 in absurd (omega arith)
        ],
      )

pub exact-visits : ExactVisits
exact-visits R t w v e n w' q = record {
  more = more_visits R t w v e n w' q;
  fewer = fewer R t w v e n w' q;
  once = λ k f m u r. let x = once R t w v k e f n m w' u q r in let y = once R t w k v f e m n u w' r q in omega arith;
}
