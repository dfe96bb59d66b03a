use Rattle.worked.proofs.Computed.{refused}
use Rattle.worked.proofs.refused_examples_hold.Goals as goal

pub returns : goal.returns
returns c = refused
