use Rattle.std.proofs.Common.{refl}
use Rattle.machine.proofs.Running.{left_on}
use Rattle.machine.proofs.state.Machine.run.Goals as goal

pub returns-in-Halted-clause-kept : goal.returns-in-Halted-clause-kept
returns-in-Halted-clause-kept g c = g.S.Strip.goes _ _ _ c.loop-done.invariant.1 c.step-status.ensures.kept

pub loop-done-preserved : goal.loop-done-preserved
loop-done-preserved g c = (
  left_on _ _ c.args.fuel c.loop-done.done _ _ _ _ c.step-status.result c.loop-done-test.true refl c.loop-done.invariant.0 c.step-status.ensures.stepped c.in-Running.is,
  g.S.Strip.goes _ _ _ c.loop-done.invariant.1 c.step-status.ensures.kept,
)
