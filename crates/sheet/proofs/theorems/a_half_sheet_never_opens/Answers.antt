use Rattle.sheet.proofs.Framing.{half_refused}
use Rattle.sheet.proofs.theorems.a_half_sheet_never_opens.Goals as goal

pub returns : goal.returns
returns c = half_refused
