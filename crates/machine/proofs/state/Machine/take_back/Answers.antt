use Rattle.machine.proofs.Linking.{frame_fits, back}
use Rattle.machine.proofs.state.Machine.take_back.Goals as goal

pub take_back-requires : goal.take_back-requires
take_back-requires c =
    let e = rw c.in_ok-frame.ensures.ok_part at c.pop.ensures.stacked in
    let f = frame_fits _ _ _ _ c.in_ok-frame.frame e c.args.self.now.inner in
    record { bound = f.0; env = f.1 }

pub invariant_of-self-2 : goal.invariant_of-self-2
invariant_of-self-2 c =
    let e = rw c.in_ok-frame.ensures.ok_part at c.pop.ensures.stacked in
    let b = back c.args.self.now.bindings.entries c.take_back.new.self.entries _ _ c.in_ok-frame.frame _ e c.take_back.ensures.entries c.args.self.now.inner in
    record { inner = rw c.take_back.ensures.env b.nests }
