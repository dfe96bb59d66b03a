-- What a table of at most `most` items answers, and what it holds then.
use Rattle.std.specs.Prelude.{◌≡◌, ℕ, ◌<◌, ◌≤◌, List, [], ◌∷◌, ◌++◌, length, Some, None, Ok, Err, Option, Result, slice_set}
use Rattle.vocabulary.specs.declared.table.TableFull.{TableFull}
use Rattle.vocabulary.specs.declared.table.NotInUse.{NotInUse}

-- an append, seen oldest first: done where there is room, and else nothing
abbrev pub Added : {X : Type 0} → ℕ → List X → List X → X → Result (Unit {0}) TableFull → Type 0
Added most s t x (Ok _) = (length s < most) × (t ≡ s ++ (x ∷ []))
Added most s t x (Err _) = (most ≤ length s) × (t ≡ s)

-- the same append, seen newest first
abbrev pub Pushed : {X : Type 0} → ℕ → List X → List X → X → Result (Unit {0}) TableFull → Type 0
Pushed most s t x (Ok _) = (length s < most) × (t ≡ x ∷ s)
Pushed most s t x (Err _) = (most ≤ length s) × (t ≡ s)

-- the newest taken off, if there is one, seen newest first
abbrev pub Popped : {X : Type 0} → List X → List X → Option X → Type 0
Popped s t None = (s ≡ []) × (t ≡ [])
Popped s t (Some x) = s ≡ x ∷ t

-- a write at i, done where i is in use, and else nothing
abbrev pub Stored : {X : Type 0} → List X → List X → ℕ → X → Result (Unit {0}) NotInUse → Type 0
Stored s t i x (Ok _) = (i < length s) × (t ≡ slice_set s i x)
Stored s t i x (Err _) = (length s ≤ i) × (t ≡ s)
