-- Which words stand for which number, and what is wrong with the others.
use Rattle.std.specs.Prelude.{◌≡◌, ℕ, ◌+◌, ◌<◌, ◌≤◌, min, cond, List, [], ◌∷◌, ◌++◌, length, drop, ℤ, pos, neg_ℤ}
use Rattle.std.specs.Int.{IsOutOfRange}
use Rattle.std.specs.Str.Parse.{AllDigits, IsNumeral, digits_value, starts_with_minus}
use Rattle.notation.specs.declared.error.WordError.{WordError}
use Rattle.notation.specs.declared.error.WordError.TheVariants.{Missing, NoDigits, NoDigit, OutOfRange, NoHexDigit, OddDigits}

-- one decimal digit or more, which write this number
abbrev pub Unsigned : List ℕ → ℕ → Type 0
Unsigned word n = IsNumeral 10 word × (digits_value 10 word ≡ n)

-- the digits of a word that may begin with '-'
abbrev pub figures : List ℕ → List ℕ
figures word = cond (starts_with_minus word) (drop 1 word) word

-- decimal digits, with '-' in front where the number is below 0
abbrev pub Signed : List ℕ → ℤ → Type 0
Signed word z = (n : ℕ) × Unsigned (figures word) n × (z ≡ cond (starts_with_minus word) (neg_ℤ (pos n)) (pos n))

-- decimal digits, none or more, which write a number of at most `most`
abbrev pub Within : ℕ → List ℕ → Type 0
Within most digits = AllDigits 10 digits × (digits_value 10 digits ≤ most)

-- what is wrong with digits that are to write a number of at most `most`, where so many bytes of the word stand before them: the first fault from the front
abbrev pub DigitsError : List ℕ → ℕ → ℕ → WordError → Type 0
DigitsError digits before most Missing = (digits ≡ []) × (before ≡ 0)
DigitsError digits before most NoDigits = (digits ≡ []) × (0 < before)
DigitsError digits before most (NoDigit place found) =
    (good : List ℕ) × (rest : List ℕ) × (digits ≡ good ++ found.0 ∷ rest) × Within most good × IsOutOfRange 48 57 found.0 × (place ≡ min (before + (length good + 1)) 18446744073709551615)
DigitsError digits before most OutOfRange =
    (good : List ℕ) × (last : ℕ) × (rest : List ℕ) × (digits ≡ good ++ last ∷ rest) × Within most good × AllDigits 10 (good ++ last ∷ []) × (most < digits_value 10 (good ++ last ∷ []))
DigitsError digits before most (NoHexDigit place found) = ⊥
DigitsError digits before most OddDigits = ⊥

-- the same for a number of 32 bits, with its sign
abbrev pub SignedError : List ℕ → WordError → Type 0
SignedError word e = cond (starts_with_minus word) (DigitsError (drop 1 word) 1 2147483648 e) (DigitsError word 0 2147483647 e)
