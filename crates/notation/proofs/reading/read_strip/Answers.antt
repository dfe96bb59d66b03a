use Rattle.std.proofs.Common.{◌≡◌, ◌∷◌, rules, codes, sym, ◌∙◌, lit<, arith}
use Rattle.std.proofs.lemmas.Slice.Eq.{text_from_reads}
use Rattle.notation.specs.Lines.{record_strip, text_strip, spoken_strip}
use Rattle.notation.proofs.Behind.{mapped, records_read, text_read, reads_on}
use Rattle.notation.proofs.reading.read_strip.Goals as goal

pub returns-in-records-clause-said : goal.returns-in-records-clause-said
returns-in-records-clause-said c =
    let kind = c.next_word.result.0.now in
    let e : kind ≡ codes "records" = text_from_reads kind (codes "records") (omega arith) (search rules) in
    reads_on spoken_strip c.args.rest.now c.next_word.result.1.now (λ ws. codes "strip" ∷ ws) (codes "records") (sym c.next_word.ensures.first ∙ e) c.next_word.ensures.second (lit< tt) c.map-in-records.result
    (mapped record_strip spoken_strip _ _ c.last_size-in-records.result c.map-in-records.result c.map-in-records.ensures.cases (λ x y p. search rules) (records_read _ _ c.last_size-in-records.ensures.number))

pub returns-in-116-clause-said : goal.returns-in-116-clause-said
returns-in-116-clause-said c =
    let kind = c.next_word.result.0.now in
    let e : kind ≡ codes "text" = text_from_reads kind (codes "text") (omega arith) (search rules) in
    reads_on spoken_strip c.args.rest.now c.next_word.result.1.now (λ ws. codes "strip" ∷ ws) (codes "text") (sym c.next_word.ensures.first ∙ e) c.next_word.ensures.second (lit< tt) c.map.result
    (mapped text_strip spoken_strip _ _ c.last_size.result c.map.result c.map.ensures.cases (λ x y p. search rules) (text_read _ _ c.last_size.ensures.number))
