-- Tables as lists of their items.
use Rattle.std.specs.Prelude.{ℕ, zero, suc, ◌-◌, List, [], ◌∷◌, length, drop, Some, None, Option}

-- the element at a place, if there is one
abbrev pub found : {X : Type 0} → List X → ℕ → Option X
found [] i = None
found (x ∷ xs) zero = Some x
found (x ∷ xs) (suc i) = found xs i

-- the first element, if there is one
abbrev pub first_of : {X : Type 0} → List X → Option X
first_of [] = None
first_of (x ∷ xs) = Some x

-- the n oldest, of a list with the newest first
abbrev pub oldest : {X : Type 0} → ℕ → List X → List X
oldest n xs = drop (length xs - n) xs
