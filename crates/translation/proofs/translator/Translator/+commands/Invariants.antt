use Rattle.std.proofs.Common.{◌+◌, ◌*◌}
use Rattle.translation.proofs.translator.Translator.+commands.Given as goal

abbrev pub decreases-command : goal.decreases-command
decreases-command l = 3 * l.n + 2

abbrev pub decreases-conditional : goal.decreases-conditional
decreases-conditional l = 3 * l.n

abbrev pub decreases-repetition : goal.decreases-repetition
decreases-repetition l = 3 * l.n

abbrev pub decreases-block : goal.decreases-block
decreases-block l = 3 * l.n

abbrev pub decreases-declaration : goal.decreases-declaration
decreases-declaration l = 3 * l.n + 2

abbrev pub decreases-routine : goal.decreases-routine
decreases-routine l = 3 * l.n + 1

abbrev pub decreases-body : goal.decreases-body
decreases-body l = 3 * l.n
