use Rattle.std.proofs.Common.{◌≡◌, ◌++◌, length, vec_items}
use Rattle.planned.proofs.carry.drain.Given as goal

-- what was taken, and what still waits
abbrev pub invariant-loop-item : goal.invariant-loop-item
invariant-loop-item g l = vec_items l.items ++ g.F.Feed.waiting l.feed ≡ g.F.Feed.waiting l.initial.feed

-- every turn takes an item
abbrev pub decreases-loop-item : goal.decreases-loop-item
decreases-loop-item g l = length (g.F.Feed.waiting l.feed)
