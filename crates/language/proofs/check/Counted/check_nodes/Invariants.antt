use Rattle.std.proofs.Common.{◌≡◌, ℕ, ◌+◌, ◌*◌, ◌<◌, ◌≤◌, Ok, length, get_or, take}
use Rattle.language.specs.Fields.{named}
use Rattle.language.specs.Table.{times, children_in}
use Rattle.language.specs.Verdicts.{node_verdict}
use Rattle.language.proofs.check.Counted.check_nodes.Given as goal

-- the nodes so far are in order, and the tallies are theirs; each has at most 3 children
abbrev pub invariant-loop-n : goal.invariant-loop-n
invariant-loop-n l =
    ((n : ℕ) → n < l.n → node_verdict l.self.nodes.now n ≡ Ok tt) × (length l.tallies ≡ 512) × ((k : ℕ) → get_or l.tallies k 0 ≤ 3 * l.n)
    × ((k : ℕ) → get_or l.tallies k 0 ≡ times k (children_in l.self.nodes.now l.n))

-- and of the children in the fields so far
abbrev pub invariant-loop-field : goal.invariant-loop-field
invariant-loop-field l =
    (length l.tallies ≡ 512) × ((k : ℕ) → get_or l.tallies k 0 ≤ 3 * l.n + l.field-index)
    × ((k : ℕ) → get_or l.tallies k 0 ≡ times k (children_in l.self.nodes.now l.n) + times k (named (take l.field-index l.field-items)))
