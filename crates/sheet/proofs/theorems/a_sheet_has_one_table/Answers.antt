use Rattle.sheet.proofs.Faith.{one_table}
use Rattle.sheet.proofs.theorems.a_sheet_has_one_table.Goals as goal

pub returns : goal.returns
returns c = one_table
