use Rattle.std.proofs.Common.{rules, sym, refl}
use Rattle.notation.specs.Lines.{said, spoken}
use Rattle.notation.proofs.Behind.{line_read, mapped, reads_on}
use Rattle.notation.proofs.Cutting.{word_some}
use Rattle.notation.proofs.line.read_line.Goals as goal

pub returns-clause-said : goal.returns-clause-said
returns-clause-said c =
    let verb = c.next_word.result.0.now in
    let behind = mapped spoken said _ _ c.read_behind.result c.map.result c.map.ensures.cases (λ x y p. search rules) c.read_behind.ensures.said in
    line_read c.args.line.now c.map.result (reads_on said c.args.line.now c.next_word.result.1.now (λ ws. ws) verb (sym c.next_word.ensures.first) c.next_word.ensures.second (word_some verb verb refl c.if-is_empty.ensures) c.map.result behind)
