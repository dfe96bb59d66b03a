-- What the memory behind a strip keeps, from one moment to a later one.
use Rattle.std.specs.Prelude.{◌≡◌, ◌≤◌, List, ◌++◌, length, drop}
use Rattle.std.specs.Borrow.{MutBor}

-- memory whose first part is `written`, and which is `before` beyond that
abbrev pub overlay : {X : Type 0} → List X → List X → List X
overlay written before = written ++ drop (length written) before

-- Over the same memory, what is written grew from `before` to `after`. The memory is now what is written, and beyond
-- that as it was.
pub record Kept {X : Type 0} (earlier later : MutBor (List X)) (before after : List X) : Type 0 where
  pub same : later.ghost_name ≡ earlier.ghost_name
  pub grown : length before ≤ length after
  pub within : length after ≤ length earlier.now
  pub memory : later.now ≡ overlay after earlier.now
