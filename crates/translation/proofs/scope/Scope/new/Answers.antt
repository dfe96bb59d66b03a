use Rattle.std.proofs.Common.{ap, reverse}
use Rattle.translation.specs.Held.{visible}
use Rattle.translation.proofs.scope.Scope.new.Goals as goal

pub returns : goal.returns
unfolding visible
returns c = ap reverse c.new.ensures
