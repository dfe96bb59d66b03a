-- Bytes as hex digits, two a byte, and what is wrong with other words.
use Rattle.std.specs.Prelude.{◌≡◌, ℕ, ◌+◌, ◌/◌, ◌%◌, ◌<◌, cond, List, [], ◌∷◌, ◌++◌, length, codes, nat_lt}
use Rattle.std.specs.List.{AllByRecursion}
use Rattle.notation.specs.declared.error.WordError.{WordError}
use Rattle.notation.specs.declared.error.WordError.TheVariants.{Missing, NoDigits, NoDigit, OutOfRange, NoHexDigit, OddDigits}

-- 0 to 9, then a to f
abbrev pub hex_digit : ℕ → ℕ
hex_digit d = cond (nat_lt d 10) (48 + d) (87 + d)

-- the digits of bytes, the high one of each first
abbrev pub hex_digits : List ℕ → List ℕ
hex_digits [] = []
hex_digits (b ∷ bs) = hex_digit (b / 16) ∷ hex_digit (b % 16) ∷ hex_digits bs

-- the word that gives bytes: their digits, or '-' for no bytes
abbrev pub hex_text : List ℕ → List ℕ
hex_text [] = codes "-"
hex_text (b ∷ bs) = hex_digits (b ∷ bs)

-- numbers that are bytes
abbrev pub Bytes : List ℕ → Type 0
Bytes bs = AllByRecursion (λ b. b < 256) bs

-- a byte that is a hex digit
abbrev pub IsHexDigit : ℕ → Type 0
IsHexDigit c = (d : ℕ) × (d < 16) × (hex_digit d ≡ c)

-- the first byte that is no hex digit, in digits of which so many bytes of the word stand in front
abbrev pub FirstNoDigit : List ℕ → ℕ → ℕ → ℕ → Type 0
FirstNoDigit digits before place found =
    (good : List ℕ) × (rest : List ℕ) × (digits ≡ good ++ found ∷ rest) × AllByRecursion IsHexDigit good × (IsHexDigit found → ⊥) × (place ≡ before + (length good + 1))

-- what is wrong with a word that is to give bytes: an odd number of digits, or else the first byte that is no digit
abbrev pub HexError : List ℕ → WordError → Type 0
HexError word Missing = word ≡ []
HexError word OddDigits = length word % 2 ≡ 1
HexError word (NoHexDigit place found) = (length word % 2 ≡ 0) × FirstNoDigit word 0 place found.0
HexError word NoDigits = ⊥
HexError word (NoDigit place found) = ⊥
HexError word OutOfRange = ⊥
