-- What a hole with a width writes, as text in a column.
use Rattle.std.proofs.Common.{◌≡◌, ℕ, zero, suc, false, true, eqb, ltb, ◌-◌, List, [], ◌∷◌, ◌++◌, length, ℤ, pos, negsuc, decimal, refl, ap, ◌∙◌, append-nil, append_assoc, arith}
use Rattle.std.specs.Fmt.{char_count, take_chars, padded, padded_integral, styled_decimal, styled_signed_decimal, styled_text, format_spec, signed_decimal}
use Rattle.std.specs.List.{repeat}
use Rattle.std.specs.Char.{encode_utf8}
use Rattle.std.proofs.lemmas.Bool.Decides.{nat_tests}
use Rattle.vocabulary.specs.declared.code.Instruction.{Instruction}
use Rattle.vocabulary.specs.declared.code.Instruction.TheVariants.{Num, Truth, Read, Look, Deref, Op, JumpFalse, Jump, Call, Ret, IsLoc, Store, Put, Enter, Leave, Bind, New, Clos, Halt}
use Rattle.vocabulary.specs.Codes.{name_of}
use Rattle.listing.specs.Page.{spaces, left, right}

abbrev most : ℕ
most = 18446744073709551615

-- the fill is spaces
filled : (n : ℕ) → repeat n (32 ∷ []) ≡ spaces n
filled zero = refl
filled (suc n) = ap (λ (l : List ℕ). 32 ∷ l) (filled n)

-- at the right, with no fill behind: a number, and one with a sign
pads : (a b : ℕ) (sign numeral : List ℕ) → b ≡ 0 → repeat a (32 ∷ []) ++ sign ++ [] ++ [] ++ (numeral ++ repeat b (32 ∷ [])) ≡ spaces a ++ (sign ++ numeral)
pads a b sign numeral e = simp (e, filled, append-nil, append_assoc)

at_right : (w : ℕ) (numeral : List ℕ) → padded_integral (format_spec 32 3 0 w most) false [] numeral ≡ right w numeral
unfolding padded_integral char_count encode_utf8
at_right w numeral =
    let k = w - length numeral - 0 - 0 in
    pads k (k - k) [] numeral (omega arith) ∙ ap (λ (n : ℕ). spaces n ++ numeral) (omega arith)

at_right_signed : (w : ℕ) (numeral : List ℕ) → padded_integral (format_spec 32 3 0 w most) true [] numeral ≡ right w (45 ∷ numeral)
unfolding padded_integral char_count encode_utf8
at_right_signed w numeral =
    let k = w - length numeral - 1 - 0 in
    pads k (k - k) (45 ∷ []) numeral (omega arith) ∙ ap (λ (n : ℕ). spaces n ++ 45 ∷ numeral) (omega arith)

pub number_at_right : (s : _) (w n : ℕ) → eqb w 0 ≡ false → s ≡ format_spec 32 3 0 w most → styled_decimal s n ≡ right w (decimal n)
number_at_right s w n h e = ap (λ t. styled_decimal t n) e ∙ rw h (at_right w (decimal n))

not_below : (n : ℕ) → ltb n 0 ≡ false
not_below n = grind (arith, nat_tests)

pub signed_at_right : (s : _) (w : ℕ) (z : ℤ) → eqb w 0 ≡ false → s ≡ format_spec 32 3 0 w most → styled_signed_decimal s z ≡ right w (signed_decimal z)
signed_at_right s w (pos n) h e = ap (λ t. styled_signed_decimal t (pos n)) e ∙ rw (h, not_below n) (at_right w (decimal n))
signed_at_right s w (negsuc n) h e = ap (λ t. styled_signed_decimal t (negsuc n)) e ∙ rw h (at_right_signed w (decimal (suc n)))

-- at the left: the name of an instruction
name_left : (i : Instruction) → padded (format_spec 32 1 0 11 most) (name_of i) ≡ left 11 (name_of i)
unfolding padded char_count take_chars encode_utf8
name_left (Num z) = refl
name_left (Truth t) = refl
name_left Read = refl
name_left (Look d) = refl
name_left Deref = refl
name_left (Op o) = refl
name_left (JumpFalse p) = refl
name_left (Jump p) = refl
name_left (Call d) = refl
name_left Ret = refl
name_left IsLoc = refl
name_left Store = refl
name_left Put = refl
name_left Enter = refl
name_left Leave = refl
name_left Bind = refl
name_left New = refl
name_left (Clos p) = refl
name_left Halt = refl

pub name_at_left : (s : _) (i : Instruction) → s ≡ format_spec 32 1 0 11 most → styled_text s (name_of i) ≡ left 11 (name_of i)
name_at_left s i e = ap (λ t. styled_text t (name_of i)) e ∙ name_left i

-- no text in a column of some width: the indentation
pub indented : (s : _) (w : ℕ) → eqb w 0 ≡ false → s ≡ format_spec 32 0 0 w most → styled_text s [] ≡ spaces w
unfolding padded char_count take_chars encode_utf8
indented s w h e = ap (λ t. styled_text t []) e ∙ rw h (simp filled (ap spaces (omega arith)))
