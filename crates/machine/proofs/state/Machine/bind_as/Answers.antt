use Rattle.std.proofs.Common.{ap}
use Rattle.machine.specs.Links.{reach}
use Rattle.machine.proofs.Linking.{grown}
use Rattle.machine.proofs.Turning.{bind_goes}
use Rattle.machine.proofs.state.Machine.bind_as.Goals as goal

pub returns : goal.returns
returns c =
    let g = grown _ _ _ _ _ c.in_ok-bind.ensures.added.1 (ap reach c.in_ok-bind.ensures.env) c.args.self.now.inner in
    bind_goes c.args.self.now.position _ _ _ _ _ _ _ c.in_ok-bind.ensures.added.0 g
