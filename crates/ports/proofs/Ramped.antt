-- A ramp without its first reading is the ramp that starts one step on; what that gives of its items and of whether they fit.
use Rattle.std.proofs.Common.{◌≡◌, ℕ, zero, suc, ◌+◌, ◌-◌, ◌*◌, ◌^◌, ◌<◌, ◌≤◌, true, false, ◌&&◌, ◌∷◌, ℤ, pos, negsuc, ◌+ℤ◌, ◌*ℤ◌, sym, refl, ap, ◌∙◌, arith, w32, w64, SFits, Ok, Err, Result, ◌⊎◌, ⊎_elim, inl, inr, ltb-false, le-ltb}
use Rattle.std.specs.Result.{OkIff, is_ok}
use Rattle.std.proofs.lemmas.Nat.{mul-le}
use lib.IntN.{neg_ℤ, pos-*ℤ-pos, pos-*ℤ-negsuc, zero-*ℤ, suc_ℤ-*ℤ, +ℤ_idr, +ℤ_assoc, +ℤ_comm}
use borrow.Author.Differences.{up, down}
use lib.Signed.{mag}
use Rattle.std.proofs.lemmas.Int.{ints}
use Rattle.std.proofs.lemmas.Bool.{lt-ltb, ltb-true, and_parts}
use Rattle.vocabulary.specs.declared.item.Item.TheVariants.{Reading}
use Rattle.vocabulary.specs.Numbers.{within32}
use Rattle.ports.specs.Ramps.{rung, rungs, rungs_fit, ramp_items, ramp_fits}

within : (z : ℤ) → SFits w32 z → within32 z ≡ true
within z f = lt-ltb (mag z) (2 ^ 31) f.sfits

from_within : (z : ℤ) → within32 z ≡ true → SFits w32 z
from_within z e = record { sfits = ltb-true (mag z) (2 ^ 31) e }

rung_first : (z s : ℤ) → rung z s 0 ≡ z
rung_first z s = ap (λ x. z +ℤ x) (zero-*ℤ s) ∙ +ℤ_idr z

rung_up : (z s : ℤ) (k : ℕ) → rung z s (suc k) ≡ rung (z +ℤ s) s k
rung_up z s k = ap (λ x. z +ℤ x) (suc_ℤ-*ℤ (pos k) s ∙ +ℤ_comm (pos k *ℤ s) s) ∙ sym (+ℤ_assoc z s (pos k *ℤ s))

rungs_up : (z s : ℤ) (k n : ℕ) → rungs z s (suc k) n ≡ rungs (z +ℤ s) s k n
rungs_up z s k zero = refl
rungs_up z s k (suc n) = ap (λ x. Reading x ∷ rungs z s (suc (suc k)) n) (rung_up z s k) ∙ ap (λ xs. Reading (rung (z +ℤ s) s k) ∷ xs) (rungs_up z s (suc k) n)

rungs_fit_up : (z s : ℤ) (k n : ℕ) → rungs_fit z s (suc k) n ≡ rungs_fit (z +ℤ s) s k n
rungs_fit_up z s k zero = refl
rungs_fit_up z s k (suc n) = ap (λ x. within32 x && rungs_fit z s (suc (suc k)) n) (rung_up z s k) ∙ ap (λ b. within32 (rung (z +ℤ s) s k) && b) (rungs_fit_up z s (suc k) n)

items_first : (z s : ℤ) (n : ℕ) → ramp_items z s (suc n) ≡ Reading z ∷ ramp_items (z +ℤ s) s n
items_first z s n = ap (λ x. Reading x ∷ rungs z s 1 n) (rung_first z s) ∙ ap (λ xs. Reading z ∷ xs) (rungs_up z s 0 n)

fits_first : (z s : ℤ) (n : ℕ) → ramp_fits z s (suc n) ≡ within32 z && ramp_fits (z +ℤ s) s n
fits_first z s n = ap (λ x. within32 x && rungs_fit z s 1 n) (rung_first z s) ∙ ap (λ b. within32 z && b) (rungs_fit_up z s 0 n)

pub items_more : (z s : ℤ) (n m : ℕ) → n ≡ m + 1 → ramp_items z s n ≡ Reading z ∷ ramp_items (z +ℤ s) s m
items_more z s n m e = let k : n ≡ suc m = omega arith in ap (ramp_items z s) k ∙ items_first z s m

-- after the last reading it does not matter where a ramp would go on
pub items_end : (z s y : ℤ) (n m : ℕ) → n ≡ m + 1 → m ≡ 0 → ramp_items z s n ≡ Reading z ∷ ramp_items y s m
items_end z s y n m e h = items_more z s n m e ∙ ap (λ k. Reading z ∷ ramp_items (z +ℤ s) s k) h ∙ sym (ap (λ k. Reading z ∷ ramp_items y s k) h)

pub fits_end : (y s : ℤ) (m : ℕ) → m ≡ 0 → ramp_fits y s m ≡ true
fits_end y s m h = ap (ramp_fits y s) h

-- a number within 32 bits, and one beyond, as a difference of two naturals
inside : (z : ℤ) → mag z < 2 ^ 31 → (up z < down z + 2 ^ 31) × (down z ≤ up z + 2 ^ 31)
inside (pos n) h = (omega arith, omega arith)
inside (negsuc n) h = (omega arith, omega arith)

outside : (z : ℤ) → 2 ^ 31 ≤ mag z → (down z + 2 ^ 31 ≤ up z) ⊎ (up z + 2 ^ 31 < down z)
outside (pos n) h = inl (omega arith)
outside (negsuc n) h = inr (omega arith)

above : (z : ℤ) → down z + 2 ^ 31 ≤ up z → 2 ^ 31 ≤ mag z
above (pos n) h = omega arith
above (negsuc n) h = omega arith

below : (z : ℤ) → up z + 2 ^ 31 < down z → 2 ^ 31 ≤ mag z
below (pos n) h = omega arith
below (negsuc n) h = omega arith

-- one step on from a reading within, a reading beyond is beyond on the side of the step: so is each later one
away : (z s : ℤ) (n : ℕ) → mag z < 2 ^ 31 → 2 ^ 31 ≤ mag (z +ℤ s) → 2 ^ 31 ≤ mag ((z +ℤ s) +ℤ (pos n *ℤ s))
away z (pos b) n h k =
    let i = inside z h in
    let p : pos n *ℤ pos b ≡ pos (n * b) = pos-*ℤ-pos n b in
    rw p (⊎_elim (λ o. above ((z +ℤ pos b) +ℤ pos (n * b)) (omega (arith, ints))) (λ o. absurd (omega (arith, ints))) (outside (z +ℤ pos b) k))
away z (negsuc b) n h k =
    let i = inside z h in
    let p : pos n *ℤ negsuc b ≡ neg_ℤ (pos (n * suc b)) = pos-*ℤ-negsuc n b in
    rw p (⊎_elim (λ o. absurd (omega (arith, ints))) (λ o. below ((z +ℤ negsuc b) +ℤ neg_ℤ (pos (n * suc b))) (omega (arith, ints))) (outside (z +ℤ negsuc b) k))

beyond : (z : ℤ) → within32 z ≡ false → 2 ^ 31 ≤ mag z
beyond z e = ltb-false (mag z) (2 ^ 31) e

not_within : (z : ℤ) → 2 ^ 31 ≤ mag z → within32 z ≡ false
not_within z h = le-ltb (mag z) (2 ^ 31) h

-- all readings are within 32 bits where the first and the last are
first_and_last : (z s : ℤ) (n : ℕ) → SFits w32 z → ramp_fits z s (suc n) ≡ within32 (rung z s n)
first_and_last z s zero f = fits_first z s 0 ∙ ap (λ b. b && true) (within z f) ∙ sym (ap within32 (rung_first z s) ∙ within z f)
first_and_last z s (suc n) f =
    fits_first z s (suc n) ∙ ap (λ b. b && ramp_fits (z +ℤ s) s (suc n)) (within z f)
    ∙ elim (within32 (z +ℤ s)) as (λ b. within32 (z +ℤ s) ≡ b → ramp_fits (z +ℤ s) s (suc n) ≡ within32 (rung (z +ℤ s) s n)) [
      | true ↦ λ e. first_and_last (z +ℤ s) s n (from_within (z +ℤ s) e)
      | false ↦ λ e.
          fits_first (z +ℤ s) s n ∙ ap (λ b. b && ramp_fits ((z +ℤ s) +ℤ s) s n) e
          ∙ sym (not_within (rung (z +ℤ s) s n) (away z s n f.sfits (beyond (z +ℤ s) e)))
    ] refl
    ∙ sym (ap within32 (rung_up z s n))

pub by_last : (z s : ℤ) (n : ℕ) → SFits w32 z → ramp_fits z s n ≡ within32 (rung z s (n - 1))
by_last z s zero f = sym (ap within32 (rung_first z s) ∙ within z f)
by_last z s (suc n) f = let m : suc n - 1 ≡ n = omega arith in first_and_last z s n f ∙ sym (ap (λ k. within32 (rung z s k)) m)

-- of more than one, the second fits, and so do all after the first
pub fits_next : (z s : ℤ) (n m : ℕ) → ramp_fits z s n ≡ true → n ≡ m + 1 → 0 < m → SFits w32 (z +ℤ s) × (ramp_fits (z +ℤ s) s m ≡ true)
fits_next z s n zero f e h = absurd (omega arith)
fits_next z s n (suc m) f e h =
    let k : n ≡ suc (suc m) = omega arith in
    let rest : ramp_fits (z +ℤ s) s (suc m) ≡ true = (and_parts (within32 z) (ramp_fits (z +ℤ s) s (suc m)) (sym (fits_first z s (suc m)) ∙ sym (ap (ramp_fits z s) k) ∙ f)).1 in
    (from_within (z +ℤ s) (and_parts (within32 (z +ℤ s)) (ramp_fits ((z +ℤ s) +ℤ s) s m) (sym (fits_first (z +ℤ s) s m) ∙ rest)).0, rest)

-- the last reading of a ramp is far within 64 bits
inward : (z : ℤ) → up z < down z + 2 ^ 63 → down z ≤ up z + 2 ^ 63 → SFits w64 z
inward (pos n) h k = record { sfits = omega arith }
inward (negsuc n) h k = record { sfits = omega arith }

pub wide : (z s : ℤ) (n : ℕ) → SFits w32 z → SFits w32 s → n < 2 ^ 16 → SFits w64 (pos n *ℤ s) × SFits w64 (z +ℤ (pos n *ℤ s))
wide z (pos b) n f g h =
    let i = inside z f.sfits in
    let j = g.sfits in
    let most = mul-le n b (2 ^ 16) (2 ^ 31) (omega arith) (omega arith) in
    rw (pos-*ℤ-pos n b) (inward (pos (n * b)) (omega (arith, ints)) (omega (arith, ints)), inward (z +ℤ pos (n * b)) (omega (arith, ints)) (omega (arith, ints)))
wide z (negsuc b) n f g h =
    let i = inside z f.sfits in
    let j = g.sfits in
    let most = mul-le n (suc b) (2 ^ 16) (2 ^ 31) (omega arith) (omega arith) in
    rw (pos-*ℤ-negsuc n b) (inward (neg_ℤ (pos (n * suc b))) (omega (arith, ints)) (omega (arith, ints)), inward (z +ℤ neg_ℤ (pos (n * suc b))) (omega (arith, ints)) (omega (arith, ints)))

-- what a conversion to 32 bits decides
pub decided : {T E : Type 0} (r : Result T E) (z : ℤ) (v : T) → OkIff r (SFits w32 z) v → is_ok r ≡ within32 z
decided (Ok x) z v d = sym (within z d.0)
decided (Err e) z v d = elim (within32 z) as (λ b. within32 z ≡ b → false ≡ within32 z) [ true ↦ λ i. absurd (d (from_within z i)) | false ↦ λ i. sym i ] refl
