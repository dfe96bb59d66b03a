-- Entries of eight bytes each, one after the other: what a loop has written, or compared, after i of them.
use Rattle.std.proofs.Common.{◌≡◌, ℕ, ◌+◌, ◌-◌, ◌*◌, ◌<◌, ◌≤◌, Bool, true, false, ◌&&◌, eqb, List, [], ◌∷◌, ◌++◌, length, get_or, take, drop, sym, refl, ap, ◌∙◌, inl, inr, append_assoc, append-nil, arith, length-append, length-drop, length-take-le, drop_of_length-le, drop-drop, take_at, drop_at}
use borrow.Rule.Slice.PartMut.{put_mid}
use Rattle.std.specs.Str.{bytes_eq}
use Rattle.std.proofs.lemmas.Slice.Eq.{bytes_eq-Decides}
use Rattle.std.specs.List.{list_all, zip}
use Rattle.std.specs.Simd.{first_chunks}
use Rattle.std.proofs.lemmas.List.{take_more, take_all, length-take, take-append-drop}
use Rattle.std.proofs.lemmas.Bool.{cases_Bool}
use Rattle.sheet.specs.Layout.{encoded}

-- bytes that are not equal are told apart
pub apart : (xs ys : List ℕ) → (xs ≡ ys → ⊥) → false ≡ bytes_eq xs ys
apart xs ys f = elim (cases_Bool (bytes_eq xs ys)) [ inl e ↦ absurd (f ((bytes_eq-Decides xs ys).0 e)) | inr e ↦ sym e ]

-- two parts are compared one after the other
pub same_append : (xs h ys t : List ℕ) → length xs ≡ length h → bytes_eq (xs ++ ys) (h ++ t) ≡ (bytes_eq xs h && bytes_eq ys t)
same_append [] [] ys t e = refl
same_append [] (y ∷ h) ys t e = absurd (omega arith)
same_append (x ∷ xs) [] ys t e = absurd (omega arith)
same_append (x ∷ xs) (y ∷ h) ys t e = ap (λ (b : Bool). eqb x y && b) (same_append xs h ys t (omega arith)) ∙ and_assoc (eqb x y) (bytes_eq xs h) (bytes_eq ys t)
  where
    and_assoc : (a b c : Bool) → (a && (b && c)) ≡ (a && b && c)
    and_assoc true b c = refl
    and_assoc false b c = refl

-- a part written behind A
pub put_next : (a k : ℕ) (A E W T : List ℕ) → length A ≡ a → T ≡ A ++ drop a E → put_mid a k T W ≡ A ++ (W ++ drop (a + k) E)
put_next a k A E W T la e =
    let f : take a T ≡ A = ap (take a) e ∙ take_at A (drop a E) a la in
    let g : drop k (drop a T) ≡ drop (a + k) E = ap (λ l. drop k (drop a l)) e ∙ (ap (drop k) (drop_at A (drop a E) a la) ∙ drop-drop k a E) in
    rw (f, g)

-- a tail from a on that is lent, and comes back as cs and what was behind it
pub tail_is : (xs cs ys : List ℕ) (a n : ℕ) → ys ≡ cs ++ drop n (take (length xs - a) (drop a xs)) → put_mid a (length xs - a) xs ys ≡ take a xs ++ (cs ++ drop (a + n) xs)
tail_is xs cs ys a n e =
    let f : drop (length xs - a) (drop a xs) ≡ [] = drop-drop (length xs - a) a xs ∙ drop_of_length-le xs (omega arith) in
    let k : take (length xs - a) (drop a xs) ≡ drop a xs = take_all (length xs - a) (drop a xs) (simp length-drop (omega arith)) in
    let g : drop n (drop a xs) ≡ drop (a + n) xs = drop-drop n a xs in
    rw (f, append-nil, ← g) (ap (λ (z : List ℕ). take a xs ++ z) (e ∙ ap (λ (z : List ℕ). cs ++ drop n z) k))

module _ {X : Type 0} (bytes : X → List ℕ) where
  pub encoded_append : (xs ys : List X) → encoded bytes (xs ++ ys) ≡ encoded bytes xs ++ encoded bytes ys
  encoded_append [] ys = refl
  encoded_append (x ∷ xs) ys = ap (λ l. bytes x ++ l) (encoded_append xs ys) ∙ sym (append_assoc (bytes x) (encoded bytes xs) (encoded bytes ys))

  pub encoded_more : (xs : List X) (i : ℕ) (d : X) → i < length xs → encoded bytes (take (i + 1) xs) ≡ encoded bytes (take i xs) ++ bytes (get_or xs i d)
  encoded_more xs i d h = ap (encoded bytes) (take_more xs i d h) ∙ (encoded_append (take i xs) (get_or xs i d ∷ []) ∙ ap (λ l. encoded bytes (take i xs) ++ l) (append-nil (bytes (get_or xs i d))))

module _ {X : Type 0} (bytes : X → List ℕ) (eight : (x : X) → length (bytes x) ≡ 8) where
  pub encoded-length : (xs : List X) → length (encoded bytes xs) ≡ 8 * length xs
  encoded-length [] = refl
  encoded-length (x ∷ xs) = simp length-append (let h = encoded-length xs in let e = eight x in omega arith)

  front_length : (xs : List X) (i : ℕ) → i ≤ length xs → length (encoded bytes (take i xs)) ≡ 8 * i
  front_length xs i h = let e : length (take i xs) ≡ i = (simp length-take (omega arith)) in encoded-length (take i xs) ∙ ap (λ (n : ℕ). 8 * n) e

  pub write_step : (xs : List X) (E T W : List ℕ) (i : ℕ) (d : X) → i < length xs → T ≡ encoded bytes (take i xs) ++ drop (8 * i) E → W ≡ bytes (get_or xs i d)
      → put_mid (8 * i) (8 * i + 8 - 8 * i) T W ≡ encoded bytes (take (i + 1) xs) ++ drop (8 * (i + 1)) E
  write_step xs E T W i d h e f =
      let A = encoded bytes (take i xs) in
      put_next (8 * i) (8 * i + 8 - 8 * i) A E W T (front_length xs i (omega arith)) e
      ∙ (ap (λ (l : ℕ). A ++ (W ++ drop l E)) {x = 8 * i + (8 * i + 8 - 8 * i)} {y = 8 * (i + 1)} (omega arith)
      ∙ (sym (append_assoc A W (drop (8 * (i + 1)) E))
      ∙ ap (λ (l : List ℕ). l ++ drop (8 * (i + 1)) E) (ap (λ (l : List ℕ). A ++ l) f ∙ sym (encoded_more bytes xs i d h))))

  -- each eight bytes are those of their entry
  pub match_all : (part : List ℕ) (xs : List X) → length part ≡ 8 * length xs →
      list_all (λ p. bytes_eq p.0 (bytes p.1)) (zip (first_chunks 8 (length xs) part) xs) ≡ bytes_eq part (encoded bytes xs)
  match_all [] [] h = refl
  match_all (y ∷ ys) [] h = absurd (omega arith)
  match_all part (x ∷ xs) h =
      let e = match_all (drop 8 part) xs (simp length-drop (omega arith)) in
      let n : length (take 8 part) ≡ length (bytes x) = length-take-le 8 part (omega arith) ∙ sym (eight x) in
      ap (λ (b : Bool). bytes_eq (take 8 part) (bytes x) && b) e
      ∙ (sym (same_append (take 8 part) (bytes x) (drop 8 part) (encoded bytes xs) n)
      ∙ ap (λ (z : List ℕ). bytes_eq z (bytes x ++ encoded bytes xs)) (take-append-drop 8 part))

  pub match-length : (part : List ℕ) (xs : List X) → (length part ≡ 8 * length xs → ⊥) → false ≡ bytes_eq part (encoded bytes xs)
  match-length part xs f = apart part (encoded bytes xs) (λ p. f (ap length p ∙ encoded-length xs))
