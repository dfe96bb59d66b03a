use Rattle.sheet.proofs.Faith.{reopening}
use Rattle.sheet.proofs.theorems.a_written_sheet_opens.Goals as goal

pub returns : goal.returns
returns c = reopening
