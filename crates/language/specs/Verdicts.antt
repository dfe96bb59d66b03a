-- Which fault of a table is answered first.
use Rattle.std.specs.Prelude.{ℕ, zero, suc, ◌+◌, ◌&&◌, List, [], length, Ok, ◌==◌, nat_le, nat_lt}
use Rattle.std.specs.Result.{result_and}
use Rattle.vocabulary.specs.declared.node.Node.{Node}
use Rattle.vocabulary.specs.declared.refusal.Cause.TheVariants.{TableLength, FieldRule, ChildNotLower, ChildSort, NotOneParent, RootNotCommand}
use Rattle.vocabulary.specs.Refusals.{Verdict, unless}
use Rattle.language.specs.declared.kind.Sort.TheVariants.{Command}
use Rattle.language.specs.Fields.{formed, children, is_of}
use Rattle.language.specs.Names.{names_c}
use Rattle.language.specs.Reading.{tree_of}
use Rattle.language.specs.Table.{nodes_of, fits, at, lower, fitting, times, children_in, root_of}

-- a node by itself: its fields, then that its children are lower, then their sorts
abbrev pub node_verdict : List Node → ℕ → Verdict
node_verdict nodes n =
    result_and (unless (formed (at nodes n)) FieldRule n)
    (result_and (unless (lower n (children (at nodes n))) ChildNotLower n)
    (unless (fitting nodes (children (at nodes n))) ChildSort n))

-- whether a node is a child exactly once
abbrev pub parent_verdict : List Node → ℕ → Verdict
parent_verdict nodes n = unless (times n (children_in nodes (length nodes)) == 1) NotOneParent n

-- the first refusal of count nodes from number n on
unfoldable pub upward : (ℕ → Verdict) → ℕ → ℕ → Verdict
upward verdict zero n = Ok tt
upward verdict (suc count) n = result_and (verdict n) (upward verdict count (n + 1))

-- whether the last node is a command
abbrev pub root_verdict : List Node → Verdict
root_verdict nodes = unless (is_of Command (at nodes (root_of nodes)).kind) RootNotCommand (root_of nodes)

-- the shape of a tree: each node by itself, then one parent for each node but the last, then a command at the root
abbrev pub shape_verdict : List Node → Verdict
shape_verdict nodes =
    result_and (upward (node_verdict nodes) (length nodes) 0)
    (result_and (upward (parent_verdict nodes) (root_of nodes) 0)
    (root_verdict nodes))

-- any number of nodes: 1 to 512 of them, then their shape
abbrev pub tree_verdict : List Node → Verdict
tree_verdict nodes = result_and (unless (nat_lt 0 (length nodes) && nat_le (length nodes) 512) TableLength 0) (shape_verdict nodes)

-- nodes: their shape, then their names
abbrev pub nodes_verdict : List Node → Verdict
nodes_verdict nodes = result_and (shape_verdict nodes) (names_c (tree_of nodes) [])

-- a table: its length, then its nodes
abbrev pub table_verdict : List ℕ → Verdict
table_verdict table = result_and (unless (fits (length table)) TableLength 0) (nodes_verdict (nodes_of table))
