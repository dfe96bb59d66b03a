-- Decimal digits, read one at a time: those before a place write the number so far.
use Rattle.std.proofs.Common.{◌≡◌, ℕ, ◌+◌, ◌-◌, ◌*◌, ◌<◌, ◌≤◌, min, List, [], ◌∷◌, ◌++◌, length, get_or, take, drop, ℤ, sym, refl, ap, ◌∙◌, ⊎_elim, subst, arith}
use Rattle.std.specs.Str.Parse.{AllDigits, digits_value_after, digits_value, starts_with_minus}
use Rattle.std.specs.Char.{digit_value}
use Rattle.std.specs.Int.{IsInRange, IsOutOfRange}
use Rattle.std.proofs.lemmas.List.{drop_more, take_more, take_all, take-append-drop, length-drop, length-take-le}
use Rattle.std.proofs.lemmas.Str.Parse.{digit_at}
use Rattle.std.proofs.lemmas.Str.{digit_value_digit}
use Rattle.std.proofs.lemmas.Bool.{cond_both}
use Rattle.notation.specs.declared.error.WordError.TheVariants.{NoDigit, OutOfRange}
use Rattle.notation.specs.Numbers.{Unsigned, Signed, figures, DigitsError}

value_push : (n : ℕ) (ds : List ℕ) (d : ℕ) → digits_value_after 10 n (ds ++ d ∷ []) ≡ digits_value_after 10 n ds * 10 + digit_value d
value_push n [] d = refl
value_push n (c ∷ cs) d = value_push (n * 10 + digit_value c) cs d

grows : (n : ℕ) (ds : List ℕ) → n ≤ digits_value_after 10 n ds
grows n [] = omega arith
grows n (c ∷ cs) = let g = grows (n * 10 + digit_value c) cs in omega arith

grows_on : (n : ℕ) (ds es : List ℕ) → digits_value_after 10 n ds ≤ digits_value_after 10 n (ds ++ es)
grows_on n [] es = grows n es
grows_on n (c ∷ cs) es = grows_on (n * 10 + digit_value c) cs es

digits_push : (ds : List ℕ) (d : ℕ) → AllDigits 10 ds → digit_value d < 10 → AllDigits 10 (ds ++ d ∷ [])
digits_push [] d h l = (l, tt)
digits_push (c ∷ cs) d h l = (h.0, digits_push cs d h.1 l)

-- the digits before place `at` write n
pub record SoFar (all : List ℕ) (at n : ℕ) : Type 0 where
  pub plain : AllDigits 10 (take at all)
  pub value : digits_value 10 (take at all) ≡ n

pub begun : (all : List ℕ) → SoFar all 0 0
begun all = record { plain = tt; value = refl }

module _ (all : List ℕ) (at n : ℕ) (h : at < length all) where
  -- before place `at`, the byte there, and the rest
  pub cut_at : all ≡ take at all ++ get_or all at 0 ∷ drop (at + 1) all
  cut_at = sym (take-append-drop at all) ∙ ap (λ t. take at all ++ t) (drop_more all at 0 h)

  pub digit_bad : IsOutOfRange 48 57 (get_or all at 0) → (k : ℕ) → Unsigned all k → ⊥
  digit_bad out k u = let d = digit_at all at u.0.1 h in let low = d.0 in let high = d.1 in ⊎_elim (λ l. omega arith) (λ r. omega arith) out

  module _ (s : SoFar all at n) (d : IsInRange 48 57 (get_or all at 0)) where
    pub so_far_more : SoFar all (at + 1) (n * 10 + (get_or all at 0 - 48))
    so_far_more =
        let e = take_more all at 0 h in
        let v = digit_value_digit (get_or all at 0) d in
        let low = d.0 in
        let high = d.1 in
        let p = value_push 0 (take at all) (get_or all at 0) in
        let q = s.value in
        record { plain = rw e (digits_push (take at all) (get_or all at 0) s.plain (omega arith)); value = rw e (omega arith) }

    pub too_large : (most : ℕ) → most < n * 10 + (get_or all at 0 - 48) → (k : ℕ) → k ≤ most → Unsigned all k → ⊥
    too_large most over k small u =
        let value = so_far_more.value in
        let g : digits_value 10 (take (at + 1) all) ≤ digits_value 10 all = subst (λ t. digits_value 10 (take (at + 1) all) ≤ digits_value 10 t) (take-append-drop (at + 1) all) (grows_on 0 (take (at + 1) all) (drop (at + 1) all)) in
        let w = u.1 in
        omega arith

    pub too_large_at : (most : ℕ) → n ≤ most → most < n * 10 + (get_or all at 0 - 48) → (before : ℕ) → DigitsError all before most OutOfRange
    too_large_at most small over before =
        let m = so_far_more in
        let e = take_more all at 0 h in
        let q = s.value in
        let v = m.value in
        (take at all, get_or all at 0, drop (at + 1) all, cut_at, (s.plain, omega arith), subst (AllDigits 10) e m.plain, subst (λ t. most < digits_value 10 t) e (omega arith))

  pub no_digit_at : SoFar all at n → IsOutOfRange 48 57 (get_or all at 0) → (most : ℕ) → n ≤ most → (before place : ℕ) → place ≡ min (before + (at + 1)) 18446744073709551615 → DigitsError all before most (NoDigit place record { 0 = get_or all at 0 })
  no_digit_at s out most small before place e =
      let q = s.value in
      (take at all, drop (at + 1) all, cut_at, (s.plain, omega arith), out, e ∙ ap (λ m. min (before + (m + 1)) 18446744073709551615) (sym (length-take-le at all (omega arith))))

pub so_far_all : (all : List ℕ) (at n : ℕ) → SoFar all at n → length all ≤ at → 0 < length all → Unsigned all n
so_far_all all at n s h some =
    let e = take_all at all h in
    ((some, subst (AllDigits 10) e s.plain), sym (ap (digits_value 10) e) ∙ s.value)

pub signed_some : (word : List ℕ) (z : ℤ) → Signed word z → 0 < length word
signed_some word z s =
    let short : length (figures word) ≤ length word = cond_both (starts_with_minus word) (drop 1 word) word (λ t. length t ≤ length word) (λ _. let d = length-drop 1 word in omega arith) (λ _. omega arith) in
    let some = s.1.0.0 in
    omega arith
