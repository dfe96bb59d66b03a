use Rattle.std.proofs.Common.{◌+◌, ◌*◌}
use Rattle.translation.proofs.translator.Translator.+expressions.Given as goal

abbrev pub decreases-choice : goal.decreases-choice
decreases-choice l = 3 * l.n

abbrev pub decreases-call : goal.decreases-call
decreases-call l = 3 * l.n

abbrev pub decreases-expression : goal.decreases-expression
decreases-expression l = 3 * l.n + 1

abbrev pub decreases-plain_value : goal.decreases-plain_value
decreases-plain_value l = 3 * l.n + 2
