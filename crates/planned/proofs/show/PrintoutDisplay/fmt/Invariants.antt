use Rattle.std.proofs.Common.{take}
use Rattle.std.specs.Fmt.{IsPlainFormatter}
use Rattle.planned.specs.Printouts.{lines_shown}
use Rattle.planned.proofs.Shown.{Shows}
use Rattle.planned.proofs.show.PrintoutDisplay.fmt.Given as goal

-- the lines of the answers before this one are written
abbrev pub invariant-loop-answer : goal.invariant-loop-answer
invariant-loop-answer g l = IsPlainFormatter l.initial.f → Shows g.W.Write.write_str_gives l.initial.f (lines_shown g.D.Display.output (take l.answer-index l.answer-items)) l.f
