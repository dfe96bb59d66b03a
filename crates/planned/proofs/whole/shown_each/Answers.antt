use Rattle.std.proofs.Common.{vec_items}
use Rattle.planned.proofs.Shown.{lines_shown-gathered, lines_shown-all}
use Rattle.planned.proofs.whole.shown_each.Goals as goal

pub loop-answer-preserved : goal.loop-answer-preserved
loop-answer-preserved g c = λ piece h.
    let d = c.shown.result in
    let word = h _ d c.shown.ensures in
    lines_shown-gathered g.D.Display.output piece (vec_items c.loop-answer.all) (vec_items c.push.new.self) c.args.answers.now c.loop-answer.answer-index d _ word.0 c.loop-answer-test.true c.in_ok-push.ensures.items (c.loop-answer.invariant piece h) word.1 word.2

pub returns : goal.returns
returns g c = λ piece h. lines_shown-all g.D.Display.output piece _ c.args.answers.now c.loop-answer.answer-index c.loop-answer-test.false (c.loop-answer.invariant piece h)
