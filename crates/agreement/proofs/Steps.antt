-- Runs of the machine, put together from steps. `Reach x s y`: s steps lead from x to y, and no state on the way has more on
-- any table than there is room for. So what a run reaches says at once where it is and that no table was ever too full.
-- Beside it: an ended machine stays as it is, and how many steps of a run are carried out.
use Rattle.std.proofs.Common.{◌≡◌, ℕ, zero, suc, ◌+◌, ◌-◌, ◌<◌, ◌≤◌, List, Some, sym, refl, ap, ◌∙◌, subst, suc-add, zero-add, arith}
use native.Mathlib.Decide.{dec_le}
use Rattle.vocabulary.specs.declared.code.Instruction.{Instruction}
use Rattle.vocabulary.specs.declared.code.Word.{Word}
use Rattle.vocabulary.specs.declared.end.End.{End}
use Rattle.vocabulary.specs.Tables.{found}
use Rattle.vocabulary.specs.World.{World, Rules}
use Rattle.language.specs.Translation.{word}
use Rattle.machine.specs.State.{Config, State}
use Rattle.machine.specs.State.State.{running, halted, broken}
use Rattle.machine.specs.Machine.{exec, obey, step, iterate, counted, taken}
use Rattle.agreement.specs.Agreement.{Within}

-- what a run is made under: the rules, the code, and the room that the proof claims for each table
pub record Setup : Type 0 where
  pub rules : Rules
  pub code : List Word
  pub room : ℕ
  pub fits : room ≤ rules.limit

-- an instruction stands at a position
abbrev pub Is : List Word → ℕ → Instruction → ℕ → Type 0
Is prog p i nd = found prog p ≡ Some (word i nd)

abbrev pub Roomy : ℕ → State → Type 0
Roomy n (running c) = Within n c
Roomy n (halted e nd w) = Unit {0}
Roomy n broken = Unit {0}

module _ (R : Rules) (prog : List Word) where
  pub iterate_add : (m n : ℕ) (x : State) → iterate R prog (m + n) x ≡ iterate R prog n (iterate R prog m x)
  iterate_add zero n x = ap (λ k. iterate R prog k x) (zero-add n)
  iterate_add (suc m) n x = ap (λ k. iterate R prog k x) (suc-add m n) ∙ iterate_add m n (step R prog x)

  -- the state at j, given the state at m and that j is d later
  pub onward : (m d j : ℕ) (x y : State) → iterate R prog m x ≡ y → j ≡ m + d → iterate R prog j x ≡ iterate R prog d y
  onward m d j x y e h = ap (λ i. iterate R prog i x) h ∙ (iterate_add m d x ∙ ap (iterate R prog d) e)

  pub halted-stays : (n : ℕ) (e : End) (nd : ℕ) (w : World) → iterate R prog n (halted e nd w) ≡ halted e nd w
  halted-stays zero e nd w = refl
  halted-stays (suc n) e nd w = halted-stays n e nd w

  pub broken-stays : (n : ℕ) → iterate R prog n broken ≡ broken
  broken-stays zero = refl
  broken-stays (suc n) = broken-stays n

  -- no more steps are carried out than are granted, and none by a machine that has ended
  counted-once : (x : State) → counted x ≤ 1
  counted-once (running c) = omega arith
  counted-once (halted e nd w) = omega arith
  counted-once broken = omega arith

  taken-within : (n : ℕ) (x : State) → taken R prog n x ≤ n
  unfolding taken
  taken-within zero x = omega arith
  taken-within (suc n) x = omega (arith, counted-once x, taken-within n (step R prog x))

  taken-ended : (n : ℕ) (e : End) (nd : ℕ) (w : World) → taken R prog n (halted e nd w) ≡ 0
  unfolding taken
  taken-ended zero e nd w = refl
  taken-ended (suc n) e nd w = omega (arith, taken-ended n e nd w)

  -- a machine that has ended within m steps carries out no more than m, however many are granted
  pub taken_until_ended : (m : ℕ) (x : State) (e : End) (nd : ℕ) (w : World) → iterate R prog m x ≡ halted e nd w → (n : ℕ) → taken R prog n x ≤ m
  unfolding taken
  taken_until_ended zero x e nd w h n = subst (λ y. taken R prog n y ≤ 0) (sym h) (omega (arith, taken-ended n e nd w))
  taken_until_ended (suc m) x e nd w h zero = omega arith
  taken_until_ended (suc m) x e nd w h (suc n) = omega (arith, counted-once x, taken_until_ended m (step R prog x) e nd w h n)

  -- and one that still runs has carried out all
  pub taken-while-running : (n : ℕ) (x : State) (c : Config) → iterate R prog n x ≡ running c → taken R prog n x ≡ n
  unfolding taken
  taken-while-running zero x c h = refl
  taken-while-running (suc n) (running d) c h = omega (arith, taken-while-running n (step R prog (running d)) c h)
  taken-while-running (suc n) (halted e nd w) c h =
      let y : halted e nd w ≡ running c = sym (halted-stays n e nd w) ∙ h in let z : ◌≡◌ {A = ℕ} 0 1 = cc y in absurd (omega arith)
  taken-while-running (suc n) broken c h =
      let y : broken ≡ running c = sym (broken-stays n) ∙ h in let z : ◌≡◌ {A = ℕ} 0 1 = cc y in absurd (omega arith)

module _ (S : Setup) where
  pub record Reach (x : State) (s : ℕ) (y : State) : Type 0 where
    pub by : iterate S.rules S.code s x ≡ y
    pub via : (j : ℕ) → j < s → Roomy S.room (iterate S.rules S.code j x)

  pub stay : {x : State} → Reach x 0 x
  stay = record { by = refl; via = λ j h. absurd (omega arith) }

  pub then : {x y z : State} {m n : ℕ} → Reach x m y → Reach y n z → Reach x (m + n) z
  then {x} {y} {z} {m} {n} p q = record {
    by = onward S.rules S.code m n (m + n) x y p.by refl ∙ q.by;
    via = λ j h. elim (dec_le m j) [
      | yes l ↦ subst (Roomy S.room) (sym (onward S.rules S.code m (j - m) j x y p.by (omega arith))) (q.via (j - m) (omega arith))
      | no l ↦ p.via j (omega arith)
    ];
  }

  -- one more step: the word at the position, that the tables are within their room, and what the word does
  pub also : {x : State} {c : Config} {s : ℕ} {y : State} (i : Instruction) (nd : ℕ) →
      Reach x s (running c) → Is S.code c.position i nd → Within S.room c → exec S.rules i nd c ≡ y → Reach x (s + 1) y
  also {x} {c} {s} {y} i nd r e roomy f = then r (record { by = ap (λ o. obey S.rules o c) e ∙ f; via = first })
    where
      first : (j : ℕ) → j < 1 → Roomy S.room (iterate S.rules S.code j (running c))
      first zero h = roomy
      first (suc j) h = absurd (omega arith)
