-- The lines of values: their text, and the values that a text says.
use Rattle.std.specs.Prelude.{ℕ, ◌-◌, true, false, cond, List, [], ◌∷◌, ◌++◌, length, pos, negsuc, codes, ◌==◌}
use Rattle.std.specs.List.{flat_map}
use Rattle.std.specs.Str.Parse.{digits_value as numeral}
use Rattle.std.specs.Fmt.{signed_decimal}
use Rattle.vocabulary.specs.declared.value.Plain.{Plain}
use Rattle.vocabulary.specs.declared.value.Plain.TheVariants.{Number, Truth}

-- a value in words: decimal digits with no leading zero, '-' before a negative; or true or false
abbrev pub word_of : Plain → List ℕ
word_of (Number z) = signed_decimal z
word_of (Truth true) = codes "true"
word_of (Truth false) = codes "false"

-- the line of a value, which byte 10 ends
abbrev pub line_of : Plain → List ℕ
line_of v = word_of v ++ (10 ∷ [])

-- the text of values: their lines one after the other
abbrev pub text_of : List Plain → List ℕ
text_of values = flat_map line_of values

-- a value takes the length of its line
abbrev pub line_length : Plain → ℕ
line_length v = length (line_of v)

-- the value that a word says
abbrev pub read_word : List ℕ → Plain
read_word [] = Number (pos 0)
read_word (b ∷ bs) =
    cond (b == 116) (Truth true)
    (cond (b == 102) (Truth false)
    (cond (b == 45) (Number (negsuc (numeral 10 bs - 1))) (Number (pos (numeral 10 (b ∷ bs))))))

-- the values of the lines that end in a text, where `begun` stands before it
abbrev pub values_after : List ℕ → List ℕ → List Plain
values_after begun [] = []
values_after begun (b ∷ bs) = cond (b == 10) (read_word begun ∷ values_after [] bs) (values_after (begun ++ (b ∷ [])) bs)

-- the values that a text says
abbrev pub values_in : List ℕ → List Plain
values_in text = values_after [] text
