use Rattle.std.proofs.Common.{arith}
use Rattle.agreement.proofs.Whole.{agreement}
use Rattle.session.proofs.SoFar.{called, all_called}
use Rattle.session.proofs.session.Goals as goal

pub loop-call-preserved : goal.loop-call-preserved
loop-call-preserved g c = (
  called _ _ _ _ _ _ _ _ _ _ _ _ c.loop-call-test.true c.act-answer.ensures.acted c.push_reserved.ensures.items c.loop-call.invariant.0,
  omega arith,
  omega arith,
  g.S.Strip.goes _ _ _ c.loop-call.invariant.3 c.act-answer.ensures.kept,
)

pub returns : goal.returns
returns g c = record {
  law = all_called _ agreement (omega arith) _ _ _ _ _ _ c.loop-call-test.false c.loop-call.invariant.0;
  kept = c.loop-call.invariant.3;
}
