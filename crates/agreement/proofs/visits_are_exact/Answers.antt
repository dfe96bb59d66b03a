use Rattle.agreement.proofs.visits_are_exact.Goals as goal
use Rattle.agreement.proofs.Visits.{exact-visits}

pub returns : goal.returns
returns c = exact-visits
