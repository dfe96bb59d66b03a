use Rattle.notation.proofs.Heard.{stands-once}
use Rattle.notation.proofs.Written.{stands-written}
use Rattle.notation.proofs.theorems.what_is_written_reads_back.Goals as goal

pub returns : goal.returns
returns c = record { back = stands-written; once = stands-once }
