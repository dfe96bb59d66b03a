use Rattle.std.proofs.Common.{inl, inr, ◌≡◌, rules, vec_items, codes, arith}
use Rattle.std.proofs.lemmas.Slice.Eq.{text_from_reads}
use Rattle.notation.specs.Lines.{loads, opens, rewinds, runs, reports, spoken, spoken_call, spoken_feed, spoken_strip}
use Rattle.notation.specs.Errors.{FeedError, LineError, TooMany}
use Rattle.notation.proofs.Behind.{mapped, mapped_error, load_read, open_read, rewind_read, run_read, report_read, at_verb, line-unknown}
use Rattle.notation.proofs.reading.read_behind.Goals as goal

pub returns-in-feed-clause-said : goal.returns-in-feed-clause-said
returns-in-feed-clause-said c =
    let e : c.args.verb.now ≡ codes "feed" = text_from_reads c.args.verb.now (codes "feed") (omega arith) (search rules) in
    at_verb _ _ _ _ e (mapped spoken_feed spoken _ _ c.read_feed.result c.map-in-feed.result c.map-in-feed.ensures.cases (λ x y p. search rules) c.read_feed.ensures.said)

pub returns-in-strip-clause-said : goal.returns-in-strip-clause-said
returns-in-strip-clause-said c =
    let e : c.args.verb.now ≡ codes "strip" = text_from_reads c.args.verb.now (codes "strip") (omega arith) (search rules) in
    at_verb _ _ _ _ e (mapped spoken_strip spoken _ _ c.read_strip.result c.map-in-strip.result c.map-in-strip.ensures.cases (λ x y p. search rules) c.read_strip.ensures.said)

pub returns-in-load-clause-said : goal.returns-in-load-clause-said
returns-in-load-clause-said c =
    let e : c.args.verb.now ≡ codes "load" = text_from_reads c.args.verb.now (codes "load") (omega arith) (search rules) in
    let call = mapped (λ v. loads (vec_items v)) spoken_call _ _ c.last_bytes.result c.map-in-load.result c.map-in-load.ensures.cases (λ x y p. search rules) (load_read _ _ c.last_bytes.ensures.bytes) in
    at_verb _ _ _ _ e (mapped spoken_call spoken _ _ c.map-in-load.result c.map-in-load-2.result c.map-in-load-2.ensures.cases (λ x y p. search rules) call)

pub returns-in-open-clause-said : goal.returns-in-open-clause-said
returns-in-open-clause-said c =
    let e : c.args.verb.now ≡ codes "open" = text_from_reads c.args.verb.now (codes "open") (omega arith) (search rules) in
    let call = mapped (λ v. opens (vec_items v)) spoken_call _ _ c.last_bytes-in-open.result c.map-in-open.result c.map-in-open.ensures.cases (λ x y p. search rules) (open_read _ _ c.last_bytes-in-open.ensures.bytes) in
    at_verb _ _ _ _ e (mapped spoken_call spoken _ _ c.map-in-open.result c.map-in-open-2.result c.map-in-open-2.ensures.cases (λ x y p. search rules) call)

pub returns-in-rewind-clause-said : goal.returns-in-rewind-clause-said
returns-in-rewind-clause-said c =
    let e : c.args.verb.now ≡ codes "rewind" = text_from_reads c.args.verb.now (codes "rewind") (omega arith) (search rules) in
    at_verb _ _ _ _ e (mapped (λ _. rewinds) spoken _ _ c.end_of_line.result c.map-in-rewind.result c.map-in-rewind.ensures.cases (λ x y p. search rules) (rewind_read _ _ c.end_of_line.ensures.end))

pub returns-in-run-clause-said : goal.returns-in-run-clause-said
returns-in-run-clause-said c =
    let e : c.args.verb.now ≡ codes "run" = text_from_reads c.args.verb.now (codes "run") (omega arith) (search rules) in
    let call = mapped runs spoken_call _ _ c.last_number.result c.map.result c.map.ensures.cases (λ x y p. search rules) (run_read _ _ c.last_number.ensures.number) in
    at_verb _ _ _ _ e (mapped spoken_call spoken _ _ c.map.result c.map-in-run.result c.map-in-run.ensures.cases (λ x y p. search rules) call)

pub returns-in-report-clause-said : goal.returns-in-report-clause-said
returns-in-report-clause-said c =
    let e : c.args.verb.now ≡ codes "report" = text_from_reads c.args.verb.now (codes "report") (omega arith) (search rules) in
    at_verb _ _ _ _ e (mapped (λ _. reports) spoken _ _ c.end_of_line-in-report.result c.map-in-report.result c.map-in-report.ensures.cases (λ x y p. search rules) (report_read _ _ c.end_of_line-in-report.ensures.end))

pub returns-in_default-clause-said : goal.returns-in_default-clause-said
returns-in_default-clause-said c =
    λ _. line-unknown c.args.verb.now c.args.rest.now (λ e. grind (arith, e)) (λ e. grind (arith, e)) (λ e. grind (arith, e)) (λ e. grind (arith, e)) (λ e. grind (arith, e)) (λ e. grind (arith, e)) (λ e. grind (arith, e))

pub returns-in-feed-clause-fault : goal.returns-in-feed-clause-fault
returns-in-feed-clause-fault c =
    let e : c.args.verb.now ≡ codes "feed" = text_from_reads c.args.verb.now (codes "feed") (omega arith) (search rules) in
    mapped_error _ c.read_feed.result c.map-in-feed.result c.map-in-feed.ensures.cases (FeedError c.args.rest.now) (LineError c.args.verb.now c.args.rest.now) (λ x f. inl (e, f)) c.read_feed.ensures.fault

pub returns-in-rewind-clause-fault : goal.returns-in-rewind-clause-fault
returns-in-rewind-clause-fault c =
    let e : c.args.verb.now ≡ codes "rewind" = text_from_reads c.args.verb.now (codes "rewind") (omega arith) (search rules) in
    mapped_error _ c.end_of_line.result c.map-in-rewind.result c.map-in-rewind.ensures.cases (TooMany c.args.rest.now) (LineError c.args.verb.now c.args.rest.now) (λ x f. inr (inr (inr (inr (inl (e, f)))))) c.end_of_line.ensures.fault

pub returns-in-report-clause-fault : goal.returns-in-report-clause-fault
returns-in-report-clause-fault c =
    let e : c.args.verb.now ≡ codes "report" = text_from_reads c.args.verb.now (codes "report") (omega arith) (search rules) in
    mapped_error _ c.end_of_line-in-report.result c.map-in-report.result c.map-in-report.ensures.cases (TooMany c.args.rest.now) (LineError c.args.verb.now c.args.rest.now) (λ x f. inr (inr (inr (inr (inr (inr (inl (e, f)))))))) c.end_of_line-in-report.ensures.fault
