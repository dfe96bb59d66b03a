-- A table of bytes as a list of nodes, and the rules of a table that do not speak of names.
use Rattle.std.specs.Prelude.{◌≡◌, ℕ, zero, suc, ◌+◌, ◌-◌, ◌*◌, ◌/◌, ◌%◌, Bool, cond, ◌&&◌, List, [], ◌∷◌, ◌++◌, length, ◌==◌, nat_le, nat_lt, slice_index, slice_index_or}
use Rattle.std.specs.List.{list_all}
use Rattle.vocabulary.specs.declared.node.Node.{Node}
use Rattle.language.specs.declared.kind.ChildField.{ChildField}
use Rattle.language.specs.Fields.{children, is_of}

-- a 16-bit field, low byte first
abbrev pub field : List ℕ → ℕ → ℕ
field bytes k = slice_index bytes k + slice_index bytes (k + 1) * 256

-- the node at a place of the bytes: kind, byte 1, and three 16-bit fields
abbrev pub node_at : List ℕ → ℕ → Node
node_at bytes k = record { kind = slice_index bytes k; tag = slice_index bytes (k + 1); a = field bytes (k + 2); b = field bytes (k + 4); c = field bytes (k + 6) }

-- the first n nodes of the bytes, 8 bytes each
unfoldable pub nodes_in : List ℕ → ℕ → List Node
nodes_in bytes zero = []
nodes_in bytes (suc n) = nodes_in bytes n ++ (node_at bytes (8 * n) ∷ [])

-- the nodes of a table
abbrev pub nodes_of : List ℕ → List Node
nodes_of bytes = nodes_in bytes (length bytes / 8)

-- a length that a table can have: in eights, 1 to 512 nodes
abbrev pub fits : ℕ → Bool
fits size = nat_lt 0 size && size % 8 == 0 && nat_le size 4096

abbrev pub nowhere : Node
nowhere = record { kind = 0; tag = 0; a = 0; b = 0; c = 0 }

-- the node with a number
abbrev pub at : List Node → ℕ → Node
at nodes n = slice_index_or nodes n nowhere

-- every child has a number below n
abbrev pub lower : ℕ → List ChildField → Bool
lower n cs = list_all (λ c. nat_lt c.number n) cs

-- every child is of the sort that is wanted
abbrev pub fitting : List Node → List ChildField → Bool
fitting nodes cs = list_all (λ c. is_of c.wanted (at nodes c.number).kind) cs

-- how often a number stands among children
abbrev pub hit : ℕ → ℕ → ℕ
hit j k = cond (j == k) 1 0

abbrev pub times : ℕ → List ChildField → ℕ
times k [] = 0
times k (c ∷ cs) = hit c.number k + times k cs

-- the children of the first n nodes
unfoldable pub children_in : List Node → ℕ → List ChildField
children_in nodes zero = []
children_in nodes (suc n) = children_in nodes n ++ children (at nodes n)

-- tallies that say of each number how often it is a child
abbrev pub Tallied : List Node → List ℕ → Type 0
Tallied nodes tallies = (k : ℕ) → slice_index tallies k ≡ times k (children_in nodes (length nodes))

-- the number of the last node, which is the root
abbrev pub root_of : List Node → ℕ
root_of nodes = length nodes - 1
