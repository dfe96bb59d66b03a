use Rattle.std.proofs.Common.{rules}
use Rattle.planned.proofs.Shown.{shows-line}
use Rattle.planned.proofs.show.PrintoutDisplay.fmt.Goals as goal

pub loop-answer-preserved : goal.loop-answer-preserved
loop-answer-preserved g c = λ plain.
    shows-line g.D.Display.output g.W.Write.write_str_gives _ c.loop-answer.f _ _ c.loop-answer.answer-index c.answer-item.result c.loop-answer-test.true c.answer-item.is (c.loop-answer.invariant plain) (search rules)
