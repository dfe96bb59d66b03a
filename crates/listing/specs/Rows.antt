-- The rows of a tree: its nodes in the order of a walk from the root, each with its level.
use Rattle.std.specs.Prelude.{ℕ, zero, suc, ◌+◌, List, [], ◌∷◌}
use Rattle.std.specs.List.{flat_map}
use Rattle.vocabulary.specs.declared.node.Node.{Node}
use Rattle.language.specs.declared.kind.ChildField.{ChildField}
use Rattle.language.specs.Fields.{children}
use Rattle.language.specs.Table.{at, hit, root_of}
use Rattle.listing.specs.declared.rows.Row.{Row}

-- a node at a level
abbrev pub row : ℕ → ℕ → Row
row n level = record { node = n; level = level }

-- a node, then the walks of its children, one level down; children are looked up `depth` times at most, and a depth above
-- the node's number never runs out
unfoldable pub walked : ℕ → List Node → Row → List Row
walked zero nodes here = []
walked (suc depth) nodes here = here ∷ flat_map (λ child. walked depth nodes (row child.number (here.level + 1))) (children (at nodes here.node))

-- the walk from a row's node down, and the walks of children of its node
abbrev pub walk : List Node → Row → List Row
walk nodes here = walked (suc here.node) nodes here

abbrev pub walks : List Node → Row → List ChildField → List Row
walks nodes here held = flat_map (λ child. walk nodes (row child.number (here.level + 1))) held

-- the rows of a table: the walk from its last node, at level 0
abbrev pub rows_of : List Node → List Row
rows_of nodes = walk nodes (row (root_of nodes) 0)

-- how many rows have the node with number k
abbrev pub rows_with : ℕ → List Row → ℕ
rows_with k [] = 0
rows_with k (r ∷ rows) = hit k r.node + rows_with k rows
