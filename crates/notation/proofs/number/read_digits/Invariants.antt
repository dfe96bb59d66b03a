use Rattle.std.proofs.Common.{◌≤◌}
use Rattle.notation.proofs.Figures.{SoFar}
use Rattle.notation.proofs.number.read_digits.Given as goal

abbrev pub invariant-loop-at : goal.invariant-loop-at
invariant-loop-at l = (l.number ≤ l.most) × SoFar l.digits l.«at» l.number
