use Rattle.std.proofs.Common.{◌≡◌, ℕ, zero, suc, ◌-◌, ◌<◌, ◌≤◌, List, [], ◌∷◌, ◌++◌, ◌⊎◌, inl, inr, reverse, length, get_or, take, drop, Some, None, sym, refl, ap, ◌∙◌, le_of_suc-le-suc, not-suc-le-zero, arith}
use Rattle.std.proofs.lemmas.List.{reverse-append, length-reverse, length-take, take-take, take_all, take-append-drop, drop_at, length-drop}
use Rattle.vocabulary.specs.Tables.{found, oldest}

module _ {X : Type 0} where
  pub found_some : (xs : List X) (i : ℕ) (d : X) → i < length xs → found xs i ≡ Some (get_or xs i d)
  found_some [] i d h = absurd (not-suc-le-zero h)
  found_some (x ∷ xs) zero d h = refl
  found_some (x ∷ xs) (suc i) d h = found_some xs i d (le_of_suc-le-suc h)

  pub found_none : (xs : List X) (i : ℕ) → length xs ≤ i → found xs i ≡ None
  found_none [] i h = refl
  found_none (x ∷ xs) zero h = absurd (not-suc-le-zero h)
  found_none (x ∷ xs) (suc i) h = found_none xs i (le_of_suc-le-suc h)

  -- k is the least of m and n
  pub take_least : (m n k : ℕ) (xs : List X) → k ≤ n → (k ≡ m) ⊎ ((k ≡ n) × (n ≤ m)) → take k xs ≡ take m (take n xs)
  take_least m n k xs l (inl e) = sym (ap (λ j. take j (take n xs)) (sym e) ∙ take-take k n xs l)
  take_least m n k xs l (inr e) = sym (take_all m (take n xs) (rw length-take (omega (arith, e.1))) ∙ ap (λ j. take j xs) (sym e.0))

  pub reverse-take : (m : ℕ) (ys : List X) → reverse (take m ys) ≡ oldest m (reverse ys)
  reverse-take m ys =
      let l : length (reverse (drop m ys)) ≡ length (reverse ys) - m = rw (length-reverse, length-drop, length-reverse) in
      let e : reverse ys ≡ reverse (drop m ys) ++ reverse (take m ys) = sym (ap reverse (take-append-drop m ys)) ∙ reverse-append (take m ys) (drop m ys) in
      sym (drop_at (reverse (drop m ys)) (reverse (take m ys)) (length (reverse ys) - m) l) ∙ sym (ap (drop (length (reverse ys) - m)) e)
