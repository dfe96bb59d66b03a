-- The words of a line: what stands between blanks, before a '#'.
use Rattle.std.specs.Prelude.{◌≡◌, ℕ, ◌<◌, Bool, cond, not, ◌||◌, List, [], ◌∷◌, length, ◌==◌}

-- space, tab or carriage return
abbrev pub blank : ℕ → Bool
blank b = b == 32 || (b == 9 || b == 13)

-- a byte of a word: no blank, and no '#', which ends the line
abbrev pub solid : ℕ → Bool
solid b = not (blank b || b == 35)

-- a line without the blanks in front
abbrev pub trimmed : List ℕ → List ℕ
trimmed [] = []
trimmed (b ∷ bs) = cond (blank b) (trimmed bs) (b ∷ bs)

-- the bytes of a word at the front
abbrev pub front : List ℕ → List ℕ
front [] = []
front (b ∷ bs) = cond (solid b) (b ∷ front bs) []

-- what is left without them
abbrev pub rest : List ℕ → List ℕ
rest [] = []
rest (b ∷ bs) = cond (solid b) (rest bs) (b ∷ bs)

-- the first word of a line, empty where there is none
abbrev pub word : List ℕ → List ℕ
word line = front (trimmed line)

-- what stands behind the first word
abbrev pub behind : List ℕ → List ℕ
behind line = rest (trimmed line)

-- the line has just these words
abbrev pub Words : List ℕ → List (List ℕ) → Type 0
Words line [] = word line ≡ []
Words line (w ∷ ws) = (word line ≡ w) × (0 < length w) × Words (behind line) ws
