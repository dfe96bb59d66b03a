use Rattle.agreement.proofs.tree_and_code_agree.Goals as goal
use Rattle.agreement.proofs.Whole.{agreement}

pub returns : goal.returns
returns c = agreement
