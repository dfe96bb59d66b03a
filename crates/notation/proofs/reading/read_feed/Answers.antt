use Rattle.std.proofs.Common.{inl, inr, subst, ◌≡◌, ◌∷◌, rules, vec_items, codes, sym, ◌∙◌, lit<, arith}
use Rattle.std.proofs.lemmas.Slice.Eq.{text_from_reads}
use Rattle.ports.specs.Traces.{items_of}
use Rattle.notation.specs.Lines.{trace_feed, spoken_feed}
use Rattle.std.proofs.lemmas.Result.{IfErr-weaker}
use Rattle.notation.specs.Errors.{FeedError, RampError, TraceError}
use Rattle.notation.proofs.Behind.{mapped, mapped_error, trace_read, reads_on}
use Rattle.notation.proofs.reading.read_feed.Goals as goal

pub returns-in-trace-clause-said : goal.returns-in-trace-clause-said
returns-in-trace-clause-said c =
    let kind = c.next_word.result.0.now in
    let e : kind ≡ codes "trace" = text_from_reads kind (codes "trace") (omega arith) (search rules) in
    reads_on spoken_feed c.args.rest.now c.next_word.result.1.now (λ ws. codes "feed" ∷ ws) (codes "trace") (sym c.next_word.ensures.first ∙ e) c.next_word.ensures.second (lit< tt) c.map.result
    (mapped (λ records. trace_feed (items_of (vec_items records))) spoken_feed _ _ c.read_trace.result c.map.result c.map.ensures.cases (λ x y p. search rules) (trace_read _ _ c.read_trace.ensures.items))

pub returns-in-ramp-clause-said : goal.returns-in-ramp-clause-said
returns-in-ramp-clause-said c =
    let kind = c.next_word.result.0.now in
    let e : kind ≡ codes "ramp" = text_from_reads kind (codes "ramp") (omega arith) (search rules) in
    reads_on spoken_feed c.args.rest.now c.next_word.result.1.now (λ ws. codes "feed" ∷ ws) (codes "ramp") (sym c.next_word.ensures.first ∙ e) c.next_word.ensures.second (lit< tt) c.read_ramp.result c.read_ramp.ensures.said

pub returns-in-trace-clause-fault : goal.returns-in-trace-clause-fault
returns-in-trace-clause-fault c =
    let kind = c.next_word.result.0.now in
    let e : kind ≡ codes "trace" = text_from_reads kind (codes "trace") (omega arith) (search rules) in
    mapped_error _ c.read_trace.result c.map.result c.map.ensures.cases (TraceError c.next_word.result.1.now) (FeedError c.args.rest.now)
    (λ x f. inl (sym c.next_word.ensures.first ∙ e, subst (λ t. TraceError t x) c.next_word.ensures.second f)) c.read_trace.ensures.fault

pub returns-in-ramp-clause-fault : goal.returns-in-ramp-clause-fault
returns-in-ramp-clause-fault c =
    let kind = c.next_word.result.0.now in
    let e : kind ≡ codes "ramp" = text_from_reads kind (codes "ramp") (omega arith) (search rules) in
    IfErr-weaker c.read_ramp.result (RampError c.next_word.result.1.now) (FeedError c.args.rest.now)
    (λ x f. inr (inl (sym c.next_word.ensures.first ∙ e, subst (λ t. RampError t x) c.next_word.ensures.second f))) c.read_ramp.ensures.fault
