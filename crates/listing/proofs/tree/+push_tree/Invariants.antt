use Rattle.std.proofs.Common.{◌≡◌, ◌++◌, string_bytes, take}
use Rattle.listing.proofs.Walking.{lines}
use Rattle.listing.proofs.tree.+push_tree.Given as goal

abbrev pub decreases-push_tree : goal.decreases-push_tree
decreases-push_tree l = l.row.node

-- the lines of the children so far
abbrev pub invariant-loop-child : goal.invariant-loop-child
invariant-loop-child l = string_bytes l.text ≡ string_bytes l.initial.text ++ lines l.shaped.nodes.now l.row (take l.child-index l.child-items)
