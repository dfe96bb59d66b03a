use Rattle.sheet.proofs.Faith.{opens_sheets}
use Rattle.sheet.proofs.theorems.only_sheets_open.Goals as goal

pub returns : goal.returns
returns c = opens_sheets
