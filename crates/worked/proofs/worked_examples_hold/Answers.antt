use Rattle.worked.proofs.Computed.{examples}
use Rattle.worked.proofs.worked_examples_hold.Goals as goal

pub returns : goal.returns
returns c = examples
