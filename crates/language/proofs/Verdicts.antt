-- When a verdict accepts.
use Rattle.std.proofs.Common.{◌≡◌, ℕ, Bool, true, false, Ok, Err, refl, ap, ◌∙◌, arith}
use Rattle.std.specs.Result.{result_and}
use Rattle.vocabulary.specs.declared.refusal.Cause.{Cause}
use Rattle.vocabulary.specs.Refusals.{Verdict, unless}

-- two checks in a row accept exactly when both do
pub both_accept : (u v : Verdict) → result_and u v ≡ Ok tt → (u ≡ Ok tt) × (v ≡ Ok tt)
both_accept (Ok x) v e = (refl, e)
both_accept (Err r) v e = let z : ◌≡◌ {A = ℕ} 0 1 = cc in absurd (omega arith)

pub accept_both : {u v : Verdict} → u ≡ Ok tt → v ≡ Ok tt → result_and u v ≡ Ok tt
accept_both {v = v} d e = ap (λ x. result_and x v) d ∙ e

-- a test accepts exactly when it is passed
pub unless_accepts : (b : Bool) (c : Cause) (nd : ℕ) → unless b c nd ≡ Ok tt → b ≡ true
unless_accepts true c nd e = refl
unless_accepts false c nd e = let z : ◌≡◌ {A = ℕ} 0 1 = cc in absurd (omega arith)

pub accept_unless : (b : Bool) (c : Cause) (nd : ℕ) → b ≡ true → unless b c nd ≡ Ok tt
accept_unless b c nd e = rw e
