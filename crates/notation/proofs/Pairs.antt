-- Hex digits, taken pair by pair: the bytes so far and what is left of the word make up the word.
use Rattle.std.proofs.Common.{◌≡◌, ℕ, zero, suc, ◌+◌, ◌*◌, ◌/◌, ◌%◌, ◌^◌, ◌-◌, ◌<◌, ◌≤◌, false, eqb, List, [], ◌∷◌, ◌++◌, length, get_or, take, drop, map, sym, refl, ap, ◌∙◌, append_assoc, length-append, subst, arith}
use lib.Utf8.{encode}
use Rattle.std.proofs.lemmas.List.{take_more, nil_from_length, length-take-le, length-map}
use Rattle.std.proofs.ByRecursion.{All-append}
use Rattle.std.specs.List.{AllByRecursion}
use Rattle.std.specs.Simd.{first_chunks}
use Rattle.std.proofs.lemmas.Str.{encode_ascii}
use Rattle.std.proofs.lemmas.Bool.Decides.{nat_tests}
use Rattle.std.proofs.lemmas.Bool.{eqb-false}
use Rattle.notation.specs.declared.error.WordError.{WordError}
use Rattle.notation.specs.declared.error.WordError.TheVariants.{NoHexDigit}
use Rattle.notation.specs.Hex.{hex_digit, hex_digits, Bytes, IsHexDigit, FirstNoDigit, HexError}

pub digits_append : (xs ys : List ℕ) → hex_digits (xs ++ ys) ≡ hex_digits xs ++ hex_digits ys
digits_append [] ys = refl
digits_append (x ∷ xs) ys = ap (λ t. hex_digit (x / 16) ∷ hex_digit (x % 16) ∷ t) (digits_append xs ys)

length_digits : (bs : List ℕ) → length (hex_digits bs) ≡ 2 * length bs
length_digits [] = refl
length_digits (b ∷ bs) = let e = length_digits bs in omega arith

abbrev pub pair_of : ℕ → List ℕ
pair_of b = hex_digits (b ∷ [])

chunked : (bs : List ℕ) → first_chunks 2 (length bs) (hex_digits bs) ≡ map pair_of bs
chunked [] = refl
chunked (b ∷ bs) = ap (λ t. pair_of b ∷ t) (chunked bs)

length-first_chunks : (n : ℕ) (xs : List ℕ) → length (first_chunks 2 n xs) ≡ n
length-first_chunks zero xs = refl
length-first_chunks (suc n) xs = ap suc (length-first_chunks n (drop 2 xs))

joined : (n : ℕ) (xs bs : List ℕ) → length xs ≡ n * 2 → first_chunks 2 n xs ≡ map pair_of bs → xs ≡ hex_digits bs
joined zero xs [] l e = nil_from_length xs (omega arith)
joined zero xs (b ∷ bs) l e = absurd (cc)
joined (suc n) [] bs l e = absurd (omega arith)
joined (suc n) (x ∷ []) bs l e = absurd (omega arith)
joined (suc n) (x ∷ y ∷ xs) [] l e = absurd (cc)
joined (suc n) (x ∷ y ∷ xs) (b ∷ bs) l e = let t : xs ≡ hex_digits bs = joined n xs bs (omega arith) (cc) in cc

byte_at : (k : ℕ) (bs : List ℕ) → Bytes bs → k < length bs → (b : ℕ) × (b < 256) × (get_or (map pair_of bs) k [] ≡ pair_of b)
byte_at k [] h l = absurd (omega arith)
byte_at zero (b ∷ bs) h l = (b, h.0, refl)
byte_at (suc k) (b ∷ bs) h l = byte_at k bs h.1 (omega arith)

-- one digit is left where there is an odd number of them
pub odd_bad : (word alone : List ℕ) → length alone ≡ length word % 2 → false ≡ eqb (length alone) 0 → (bytes : List ℕ) → word ≡ hex_digits bytes → ⊥
odd_bad word alone rest odd bytes e = let l : length word ≡ 2 * length bytes = ap length e ∙ length_digits bytes in eqb-false (length alone) 0 (sym odd) (omega arith)

-- the word, cut at the pair at place k
chunk_cut : (n k : ℕ) (xs items : List ℕ) → k < n → n * 2 ≤ length xs → take k (first_chunks 2 n xs) ≡ map pair_of items → (tail : List ℕ) × (xs ≡ hex_digits items ++ (get_or (first_chunks 2 n xs) k [] ++ tail))
chunk_cut zero k xs items h l e = absurd (omega arith)
chunk_cut (suc n) k [] items h l e = absurd (omega arith)
chunk_cut (suc n) k (x ∷ []) items h l e = absurd (omega arith)
chunk_cut (suc n) zero (x ∷ y ∷ xs) [] h l e = (xs, refl)
chunk_cut (suc n) zero (x ∷ y ∷ xs) (b ∷ bs) h l e = absurd (cc)
chunk_cut (suc n) (suc k) (x ∷ y ∷ xs) [] h l e = absurd (cc)
chunk_cut (suc n) (suc k) (x ∷ y ∷ xs) (b ∷ bs) h l e =
    let f : take k (first_chunks 2 n xs) ≡ map pair_of bs = cc in
    let p = chunk_cut n k xs bs (omega arith) (omega arith) f in
    let high : x ≡ hex_digit (b / 16) = cc in
    let low : y ≡ hex_digit (b % 16) = cc in
    (p.0, rw (high, low) (ap (λ t. hex_digit (b / 16) ∷ hex_digit (b % 16) ∷ t) p.1))

all_digits : (bs : List ℕ) → Bytes bs → AllByRecursion IsHexDigit (hex_digits bs)
all_digits [] h = tt
all_digits (b ∷ bs) h = let small = h.0 in ((b / 16, omega arith, refl), ((b % 16, omega arith, refl), all_digits bs h.1))

module _ (word : List ℕ) (pairs : List (List ℕ)) (front : pairs ≡ first_chunks 2 (length word / 2) word) where
  pub pairs_all : (items : List ℕ) → length word % 2 ≡ 0 → pairs ≡ map pair_of items → word ≡ hex_digits items
  pairs_all items even e = joined (length word / 2) word items (omega arith) (sym front ∙ e)

  module _ (k : ℕ) (h : k < length pairs) where
    pub pair_bad : ((b : ℕ) → b < 256 → get_or pairs k [] ≡ pair_of b → ⊥) → (bytes : List ℕ) → Bytes bytes → word ≡ hex_digits bytes → ⊥
    pair_bad none bytes small e =
        let l : length word ≡ 2 * length bytes = ap length e ∙ length_digits bytes in
        let n : length word / 2 ≡ length bytes = omega arith in
        let m = ap length front ∙ length-first_chunks (length word / 2) word in
        let p : pairs ≡ map pair_of bytes = front ∙ ap (λ m. first_chunks 2 m word) n ∙ ap (first_chunks 2 (length bytes)) e ∙ chunked bytes in
        let b = byte_at k bytes small (omega arith) in
        none b.0 b.1 (ap (λ t. get_or t k []) p ∙ b.2)

    -- the first byte of the pair that is no digit is that of the word
    pair_fault : (items : List ℕ) → Bytes items → take k pairs ≡ map pair_of items → (place found : ℕ) → FirstNoDigit (get_or pairs k []) (2 * k) place found → FirstNoDigit word 0 place found
    pair_fault items small e place found f =
        let m = ap length front ∙ length-first_chunks (length word / 2) word in
        let c = chunk_cut (length word / 2) k word items (omega arith) (omega arith) (ap (take k) (sym front) ∙ e) in
        let d = simp length-map at (ap length e) in
        let g = length-take-le k pairs (omega arith) in
        let s : get_or (first_chunks 2 (length word / 2) word) k [] ≡ f.0 ++ found ∷ f.1 = ap (λ t. get_or t k []) (sym front) ∙ f.2 in
        let t = length_digits items in (
          hex_digits items ++ f.0,
          f.1 ++ c.0,
          c.1 ∙ ap (λ t. hex_digits items ++ (t ++ c.0)) s ∙ ap (λ t. hex_digits items ++ t) (append_assoc f.0 (found ∷ f.1) c.0) ∙ sym (append_assoc (hex_digits items) f.0 (found ∷ f.1 ++ c.0)),
          All-append IsHexDigit (hex_digits items) f.0 (all_digits items small) f.3,
          f.4,
          let p = f.5 in let q = length-append (hex_digits items) f.0 in omega arith,
        )

-- the error of a pair is that of the word
module _ (word : List ℕ) (pairs : List (List ℕ)) (front : pairs ≡ first_chunks 2 (length word / 2) word) (even : length word % 2 ≡ 0) (k : ℕ) (h : k < length pairs) where
  pub pair_error : (items : List ℕ) → Bytes items → take k pairs ≡ map pair_of items → (w : WordError) → (place : ℕ) × (found : ℕ) × (w ≡ NoHexDigit place record { 0 = found }) × FirstNoDigit (get_or pairs k []) (2 * k) place found → HexError word w
  pair_error items small e w f = subst (HexError word) (sym f.2) (even, pair_fault word pairs front k h items small e f.0 f.1 f.3)

-- writing
pub encode_digit : (d : ℕ) → d < 16 → encode (hex_digit d) ≡ hex_digit d ∷ []
encode_digit d h = encode_ascii (hex_digit d) (grind (arith, nat_tests))

pub digits_more : (bytes : List ℕ) (i : ℕ) → i < length bytes → hex_digits (take (i + 1) bytes) ≡ hex_digits (take i bytes) ++ (hex_digit (get_or bytes i 0 / 16) ∷ hex_digit (get_or bytes i 0 % 16) ∷ [])
digits_more bytes i h = ap hex_digits (take_more bytes i 0 h) ∙ digits_append (take i bytes) (get_or bytes i 0 ∷ [])
