-- A run by its steps: what is left to do from where it has come, and what it comes to when the fuel is spent or the machine stops.
use Rattle.std.proofs.Common.{◌≡◌, ℕ, zero, suc, ◌+◌, ◌-◌, ◌<◌, ◌⊎◌, List, sym, refl, ap, ◌∙◌, subst, inl, inr, arith}
use Rattle.vocabulary.specs.declared.end.End.{End}
use Rattle.machine.specs.declared.tables.Status.{Status}
use Rattle.machine.specs.declared.tables.Status.TheVariants.{Running, Halted, Broken}
use Rattle.vocabulary.specs.declared.code.Word.{Word}
use Rattle.vocabulary.specs.World.{Rules}
use Rattle.machine.specs.Machine.{step, iterate, taken, counted}
use Rattle.machine.specs.State.{Core, Ports, State, joined}
use Rattle.machine.specs.State.State.{running, halted, broken}
use Rattle.machine.specs.Seen.{stands}

-- after d of n steps from a, at b
pub record Left (R : Rules) (code : List Word) (n d : ℕ) (a b : State) : Type 0 where
  pub comes : iterate R code (n - d) b ≡ iterate R code n a
  pub counts : d + taken R code (n - d) b ≡ taken R code n a

module _ (R : Rules) (code : List Word) where
  iterate-stays : (n : ℕ) (s : State) → counted s ≡ 0 → iterate R code n s ≡ s
  iterate-stays zero s h = refl
  iterate-stays (suc n) (running c) h = absurd (omega arith)
  iterate-stays (suc n) (halted e k w) h = iterate-stays n (halted e k w) h
  iterate-stays (suc n) broken h = iterate-stays n broken h

  taken_none : (n : ℕ) (s : State) → counted s ≡ 0 → taken R code n s ≡ 0
  unfolding taken
  taken_none zero s h = refl
  taken_none (suc n) (running c) h = absurd (omega arith)
  taken_none (suc n) (halted e k w) h = let i = taken_none n (halted e k w) h in omega arith
  taken_none (suc n) broken h = let i = taken_none n broken h in omega arith

  pub left_less : (n d : ℕ) (a b b' : State) → d < n → counted b ≡ 1 → Left R code n d a b → b' ≡ step R code b → Left R code n (d + 1) a b'
  unfolding taken
  left_less n d a b b' h o l s =
      let z : n - d ≡ suc (n - (d + 1)) = omega arith in
      let i : iterate R code (n - d) b ≡ iterate R code (n - (d + 1)) b' = ap (λ k. iterate R code k b) z ∙ ap (iterate R code (n - (d + 1))) (sym s) in
      let t : taken R code (n - d) b ≡ counted b + taken R code (n - (d + 1)) b' = ap (λ k. taken R code k b) z ∙ ap (λ q. counted b + taken R code (n - (d + 1)) q) (sym s) in
      let u = l.counts in
      record { comes = sym i ∙ l.comes; counts = omega arith }

  pub left_on : (n d : ℕ) (a b : State) (k : Core) (w : Ports) (r : Status) → d < n → counted b ≡ 1 → Left R code n d a b → stands r k w ≡ step R code b → r ≡ Running → Left R code n (d + 1) a (running (joined k w))
  left_on n d a b k w r h o l s q = left_less n d a b (running (joined k w)) h o l (subst (λ z. stands z k w ≡ step R code b) q s)

  pub left_none : (n d : ℕ) (a b : State) → d ≡ n → Left R code n d a b → (b ≡ iterate R code n a) × (n ≡ taken R code n a)
  unfolding taken
  left_none n d a b h l =
      let z : n - d ≡ 0 = omega arith in
      let t : taken R code (n - d) b ≡ 0 = ap (λ k. taken R code k b) z in
      let u = l.counts in
      (sym (ap (λ k. iterate R code k b) z) ∙ l.comes, omega arith)

  pub left_stop : (n d : ℕ) (a b : State) → counted b ≡ 0 → Left R code n d a b → (b ≡ iterate R code n a) × (d ≡ taken R code n a)
  left_stop n d a b h l =
      let t = taken_none (n - d) b h in
      let u = l.counts in
      (sym (iterate-stays (n - d) b h) ∙ l.comes, omega arith)

stops : (r : Status) (c : Core) (w : Ports) → (r ≡ Running → ⊥) → counted (stands r c w) ≡ 0
stops Running c w ne = absurd (ne refl)
stops (Halted e k) c w ne = refl
stops Broken c w ne = refl

not_running : (r : Status) → ((x : End) × (n : ℕ) × (r ≡ Halted x n)) ⊎ (r ≡ Broken) → r ≡ Running → ⊥
not_running r (inl h) g = let e = h.2 in let z : ◌≡◌ {A = ℕ} 0 1 = cc in omega arith
not_running r (inr e) g = let z : ◌≡◌ {A = ℕ} 0 1 = cc in omega arith

-- the last step: what it comes to, and how many were carried out with it
ended : (R : Rules) (code : List Word) (n d : ℕ) (a b : State) (k : Core) (w : Ports) (r : Status) → d < n → counted b ≡ 1 → Left R code n d a b → stands r k w ≡ step R code b → ((x : End) × (m : ℕ) × (r ≡ Halted x m)) ⊎ (r ≡ Broken) → (stands r k w ≡ iterate R code n a) × (d + 1 ≡ taken R code n a)
ended R code n d a b k w r h o l s q = left_stop R code n (d + 1) a (stands r k w) (stops r k w (not_running r q)) (left_less R code n d a b (stands r k w) h o l s)

pub came_to : (R : Rules) (code : List Word) (n d : ℕ) (a b : State) (k : Core) (w : Ports) (r : Status) → d < n → counted b ≡ 1 → Left R code n d a b → stands r k w ≡ step R code b → ((x : End) × (m : ℕ) × (r ≡ Halted x m)) ⊎ (r ≡ Broken) → stands r k w ≡ iterate R code n a
came_to R code n d a b k w r h o l s q = (ended R code n d a b k w r h o l s q).0

pub was_counted : (R : Rules) (code : List Word) (n d : ℕ) (a b : State) (k : Core) (w : Ports) (r : Status) → d < n → counted b ≡ 1 → Left R code n d a b → stands r k w ≡ step R code b → ((x : End) × (m : ℕ) × (r ≡ Halted x m)) ⊎ (r ≡ Broken) → d + 1 ≡ taken R code n a
was_counted R code n d a b k w r h o l s q = (ended R code n d a b k w r h o l s q).1
