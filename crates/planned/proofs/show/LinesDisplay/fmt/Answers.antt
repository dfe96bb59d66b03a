use Rattle.std.proofs.Common.{rules, ◌≡◌, ℕ, ◌+◌, eqb, List, ◌++◌, get_or, drop, sym, ap, ◌∙◌, append_assoc}
use Rattle.std.proofs.Output.{has_written_append}
use Rattle.std.proofs.lemmas.List.{at_drop_more}
use Rattle.planned.specs.Leaves.{byte_text, lines_text}
use Rattle.planned.proofs.show.LinesDisplay.fmt.Goals as goal

pub loop-byte-preserved : goal.loop-byte-preserved
loop-byte-preserved g c = λ plain.
    let lines = c.args.self.now.0.now in
    let i = c.loop-byte.byte-index in
    let b = get_or lines i 0 in
    let begins = c.loop-byte.begins in
    let sofar = c.loop-byte.invariant plain in
    let rest = lines_text (eqb b 10) (drop (i + 1) lines) in
    let step : lines_text begins (drop i lines) ≡ byte_text begins b ++ rest = at_drop_more (lines_text begins) lines i 0 c.loop-byte-test.true in (
      sofar.0 ++ byte_text begins b,
      has_written_append _ _ _ _ _ _ sofar.1 (search rules),
      append_assoc sofar.0 (byte_text begins b) rest ∙ ap (λ (t : List ℕ). sofar.0 ++ t) (sym step) ∙ sofar.2,
    )
