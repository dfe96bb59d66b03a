use Rattle.std.proofs.Common.{length}
use Rattle.workshop.proofs.options.options_in.Given as goal

-- every turn takes a word
abbrev pub decreases-loop-rest : goal.decreases-loop-rest
decreases-loop-rest l = length l.rest
