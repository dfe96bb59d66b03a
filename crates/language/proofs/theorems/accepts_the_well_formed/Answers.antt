use Rattle.language.proofs.Accepted.{well_formed, accepted}
use Rattle.language.proofs.theorems.accepts_the_well_formed.Goals as goal

pub returns : goal.returns
returns c = record { only = well_formed; every = accepted }
