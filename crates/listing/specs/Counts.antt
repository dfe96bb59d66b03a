-- What a page has lines for.
use Rattle.std.specs.Prelude.{◌≡◌, ℕ, ◌+◌, ◌<◌, List, [], ◌∷◌, length}
use Rattle.vocabulary.specs.declared.code.Word.{Word}
use Rattle.vocabulary.specs.declared.node.Node.{Node}
use Rattle.language.specs.Table.{hit}
use Rattle.listing.specs.Page.{page}
use Rattle.listing.specs.Rows.{rows_of, rows_with}

-- how many lines a text has: as many as bytes 10
abbrev pub lines_in : List ℕ → ℕ
lines_in [] = 0
lines_in (b ∷ bs) = hit 10 b + lines_in bs

-- the rows of nodes, and the page on which they stand, miss no node, repeat none, and add none
pub record OneLineEach (nodes : List Node) : Type 0 where
  -- each node has exactly one row
  pub once : (k : ℕ) → k < length nodes → rows_with k (rows_of nodes) ≡ 1
  -- and there is no other row
  pub rows : length (rows_of nodes) ≡ length nodes
  -- beside four lines of headings and an empty one, the page has a line for each node and for each word
  pub lines : (code : List Word) → lines_in (page nodes code) ≡ 5 + length nodes + length code
