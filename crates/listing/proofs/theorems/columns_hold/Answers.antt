use Rattle.listing.proofs.Aligning.{aligned, even_code}
use Rattle.listing.proofs.theorems.columns_hold.Goals as goal

pub returns : goal.returns
returns c = record { tree = aligned; code = even_code }
