-- Values written on lent memory, whatever its elements are.
use Rattle.std.specs.Prelude.{◌≡◌, ℕ, ◌<◌, ◌≤◌, List, [], ◌∷◌, ◌++◌, length, take, drop, Ok, Err, Result}
use Rattle.vocabulary.specs.declared.value.Plain.{Plain}
use Rattle.ports.specs.declared.strip.StripFull.{StripFull}

-- a line copied to the start of free memory, and its length; or no room for it
abbrev pub Filled : {X : Type 0} → List X → List X → List X → Result ℕ StripFull → Type 0
Filled line before after (Ok n) = (length line ≤ length before) × (n ≡ length line) × (after ≡ line ++ drop n before)
Filled line before after (Err full) = (length before < length line) × (after ≡ before)

-- elements that are one more value, behind whatever values are written already
abbrev pub Adds : {X : Type 0} → (List Plain → List X) → (List X → List Plain) → Plain → List X → Type 0
Adds {X} written said value line =
    (before : List X) → written (said before) ≡ before → (said (before ++ line) ≡ said before ++ (value ∷ [])) × (written (said (before ++ line)) ≡ before ++ line)

-- a value written at the start of free memory, and how many elements it took; or no room for it
abbrev pub Wrote : {X : Type 0} → (Plain → ℕ) → (List Plain → List X) → (List X → List Plain) → Plain → List X → List X → Result ℕ StripFull → Type 0
Wrote price written said value before after (Ok n) =
    (price value ≤ length before) × (n ≡ price value) × Adds written said value (take n after) × (drop n after ≡ drop n before)
Wrote price written said value before after (Err full) = (length before < price value) × (after ≡ before)
