use Rattle.std.proofs.Common.{◌≡◌, length, vec_items}
use Rattle.ports.specs.Traces.{items_of}
use Rattle.notation.specs.Errors.{behind_words}
use Rattle.notation.proofs.Items.{Listed}
use Rattle.notation.proofs.trace.read_trace.Given as goal

abbrev pub invariant-loop-word : goal.invariant-loop-word
invariant-loop-word l = Listed l.line l.left (items_of (vec_items l.records)) × (l.left ≡ behind_words (length (vec_items l.records)) l.line)

abbrev pub decreases-loop-word : goal.decreases-loop-word
decreases-loop-word l = length l.left
