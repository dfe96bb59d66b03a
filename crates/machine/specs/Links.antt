-- What the machine's tables of entries and frames mean as lists: both stand newest first, and an environment is given by a number:
-- how many entries there were once its newest was made.
use Rattle.std.specs.Prelude.{◌≡◌, ℕ, suc, ◌≤◌, Bool, true, cond, ◌&&◌, List, [], ◌∷◌, length, drop, Some, None, Option, ◌==◌, nat_le}
use Rattle.vocabulary.specs.Tables.{found}
use Rattle.machine.specs.declared.tables.Bound.{Bound}
use Rattle.machine.specs.declared.tables.Entry.{Entry}
use Rattle.machine.specs.declared.tables.Frame.{Frame}
use Rattle.machine.specs.State.{Dump}
use Rattle.machine.specs.State.Dump.{frame}

-- the number of an environment: 0 for none, and else that of the place of its newest entry, counted from 1
abbrev pub reach : Option ℕ → ℕ
reach None = 0
reach (Some place) = suc place

-- the environment that a number stands for: none at 0, and else what begins with the entry of that number, counted from 1
unfoldable pub chain : List Entry → ℕ → List Bound
chain [] e = []
chain (c ∷ t) e = cond (e == suc (length t)) (c.what ∷ chain t (reach c.below)) (chain t e)

-- the dump that a table of frames stands for
unfoldable pub chains : List Entry → List Frame → List Dump
chains t [] = []
chains t (f ∷ fs) = frame (chain t (reach f.env)) f.bound f.other ∷ chains t fs

-- each entry's environment is older than the entry
unfoldable pub linked : List Entry → Bool
linked [] = true
linked (c ∷ t) = nat_le (reach c.below) (length t) && linked t

-- an environment is among the n entries in use with it, and the dump's are among those and fewer from frame to frame
unfoldable pub nested : ℕ → ℕ → List Frame → Bool
nested n e [] = nat_le e n
nested n e (f ∷ fs) = nat_le e n && (nat_le f.bound n && nested f.bound (reach f.env) fs)

-- the newest entry of an environment
abbrev pub Opened : List Entry → ℕ → Option Entry → Type 0
Opened t e None = chain t e ≡ []
Opened t e (Some x) = (chain t e ≡ x.what ∷ chain t (reach x.below)) × (reach x.below ≤ length t)

-- the entry with d newer ones in its environment
abbrev pub Found : List Entry → ℕ → ℕ → Option Entry → Type 0
Found t e d None = found (chain t e) d ≡ None
Found t e d (Some x) = (found (chain t e) d ≡ Some x.what) × (drop (suc d) (chain t e) ≡ chain t (reach x.below)) × (reach x.below ≤ length t)
