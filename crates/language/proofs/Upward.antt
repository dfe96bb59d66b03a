-- The first refusal of a walk upward, and what it means that there is none.
use Rattle.std.proofs.Common.{◌≡◌, ℕ, zero, suc, ◌+◌, ◌<◌, ◌≤◌, Ok, Err, sym, refl, subst, ⊎_elim, arith}
use Rattle.std.proofs.lemmas.Bool.{cases_eq}
use Rattle.vocabulary.specs.declared.refusal.Refusal.{Refusal}
use Rattle.vocabulary.specs.Refusals.{Verdict}
use Rattle.language.specs.Verdicts.{upward}
use Rattle.language.proofs.Verdicts.{both_accept, accept_both}

module _ (v : ℕ → Verdict) where
  -- the first refusal, where all before it passed
  pub stopped : (m k p : ℕ) {x : Refusal} → k ≤ p → p < k + m → ((n : ℕ) → k ≤ n → n < p → v n ≡ Ok tt) → v p ≡ Err x → upward v m k ≡ Err x
  unfolding upward
  stopped zero k p l u before e = absurd (omega arith)
  stopped (suc m) k p {x} l u before e =
      ⊎_elim (λ (q : k ≡ p). let w : v k ≡ Err x = subst (λ (i : ℕ). v i ≡ Err x) (sym q) e in rw w)
      (λ (q : k ≡ p → ⊥). rw (before k (omega arith) (omega arith)) (stopped m (k + 1) p (omega arith) (omega arith) (λ n a b. before n (omega arith) b) e))
      (cases_eq k p)

  -- no refusal: none at any number
  pub all_passed : (m k n : ℕ) → upward v m k ≡ Ok tt → k ≤ n → n < k + m → v n ≡ Ok tt
  unfolding upward
  all_passed zero k n h l u = absurd (omega arith)
  all_passed (suc m) k n h l u =
      let p = both_accept (v k) (upward v m (k + 1)) h in
      ⊎_elim (λ (q : k ≡ n). subst (λ (i : ℕ). v i ≡ Ok tt) q p.0) (λ (q : k ≡ n → ⊥). all_passed m (k + 1) n p.1 (omega arith) (omega arith)) (cases_eq k n)

  pub passed_all : (m k : ℕ) → ((n : ℕ) → k ≤ n → n < k + m → v n ≡ Ok tt) → upward v m k ≡ Ok tt
  unfolding upward
  passed_all zero k h = refl
  passed_all (suc m) k h = accept_both (h k (omega arith) (omega arith)) (passed_all m (k + 1) (λ n l u. h n (omega arith) (omega arith)))
