-- What a strip means: the list of the values that it holds, and the space left on it.
use Rattle.std.specs.Prelude.{◌≡◌, ℕ, ◌-◌, ◌<◌, ◌≤◌, List, [], ◌∷◌, ◌++◌, Ok, Err, Result}
use Rattle.vocabulary.specs.declared.value.Plain.{Plain}
use Rattle.ports.specs.declared.strip.StripFull.{StripFull}

-- what a put of a value at this price answers, by the values held and the space before it, and those after it
abbrev pub Put : ℕ → Plain → List Plain → ℕ → List Plain → ℕ → Result (Unit {0}) StripFull → Type 0
Put price value held space later left (Ok done) = (price ≤ space) × (later ≡ held ++ (value ∷ [])) × (left ≡ space - price)
Put price value held space later left (Err full) = (space < price) × (later ≡ held) × (left ≡ space)
