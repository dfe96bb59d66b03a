use Rattle.workshop.proofs.visible.Walk.+meets.Given as goal

-- a child is lower than its parent
abbrev pub decreases-meets : goal.decreases-meets
decreases-meets l = l.n
