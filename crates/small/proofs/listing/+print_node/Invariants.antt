use Rattle.small.proofs.listing.+print_node.Given as goal

-- a child is lower than its parent
abbrev pub decreases-print_node : goal.decreases-print_node
decreases-print_node l = l.n
