use Rattle.translation.proofs.Scopes.{bound}
use Rattle.translation.proofs.scope.Scope.bind.Goals as goal

pub returns : goal.returns
returns c = bound c.push.ensures.fronted c.push.ensures.stacked
