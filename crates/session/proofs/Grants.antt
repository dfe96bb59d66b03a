-- One grant after another is one grant of their sum; and a machine that still runs has made every step it was granted.
use Rattle.std.proofs.Common.{◌≡◌, ℕ, zero, suc, ◌+◌, List, refl, ap, ◌∙◌, suc-add, zero-add, arith}
use Rattle.vocabulary.specs.declared.code.Word.{Word}
use Rattle.vocabulary.specs.World.{Rules}
use Rattle.machine.specs.Machine.{step, iterate, taken}
use Rattle.machine.specs.State.{Config, State}
use Rattle.machine.specs.State.State.{running, halted, broken}
use Rattle.agreement.proofs.Steps.{halted-stays, broken-stays}

module _ (R : Rules) (code : List Word) where
  pub taken_add : (m n : ℕ) (x : State) → taken R code (m + n) x ≡ taken R code m x + taken R code n (iterate R code m x)
  unfolding taken
  taken_add zero n x = ap (λ k. taken R code k x) (zero-add n) ∙ (omega arith)
  taken_add (suc m) n x =
      ap (λ k. taken R code k x) (suc-add m n) ∙ (let h = taken_add m n (step R code x) in omega arith)

  pub taken_all : (n : ℕ) (x : State) (c : Config) → iterate R code n x ≡ running c → taken R code n x ≡ n
  unfolding taken
  taken_all zero x c e = refl
  taken_all (suc n) (running d) c e = let h = taken_all n (step R code (running d)) c e in omega arith
  taken_all (suc n) (halted end node w) c e =
      let s = halted-stays R code n end node w in let z : ◌≡◌ {A = ℕ} 0 1 = cc in absurd (omega arith)
  taken_all (suc n) broken c e = let s = broken-stays R code n in let z : ◌≡◌ {A = ℕ} 0 1 = cc in absurd (omega arith)
