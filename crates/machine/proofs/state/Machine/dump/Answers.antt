use Rattle.machine.proofs.Turning.{entered}
use Rattle.machine.proofs.state.Machine.dump.Goals as goal

pub invariant_of-self : goal.invariant_of-self
invariant_of-self c = record { inner = entered _ _ _ _ _ _ c.try_push.result c.try_push.ensures.stacked c.frame-frame.ensures c.args.self.now.inner }
