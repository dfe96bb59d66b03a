use Rattle.std.proofs.Common.{◌≡◌, ◌+◌, suc, inr, length-append, arith, ◌<◌, [], ◌∷◌, length, vec_items, sym, refl, ap, ◌∙◌, subst}
use Rattle.std.proofs.lemmas.List.{map_push}
use Rattle.std.proofs.lemmas.Slice.{pushed}
use Rattle.std.proofs.lemmas.Result.{err_from_is_err_and}
use Rattle.ports.specs.Traces.{item_of, items_of}
use Rattle.notation.specs.Errors.{ItemError, behind_words}
use Rattle.notation.specs.Lines.{IsItem}
use Rattle.notation.specs.Words.{word, behind}
use Rattle.notation.proofs.Cutting.{word_none, word_some}
use Rattle.notation.proofs.Items.{Listed, behind_shorter, listed_all, listed_bad, listed_more, listed_none}
use Rattle.notation.proofs.trace.read_trace.Goals as goal

pub returns-then-is_empty-clause-items : goal.returns-then-is_empty-clause-items
returns-then-is_empty-clause-items c =
    listed_all c.args.line.now c.loop-word.left.now _ c.loop-word.invariant.0 (word_none c.next_word.result.0.now _ c.next_word.ensures.first c.if-is_empty.ensures)

pub returns-in_err-record-clause-items : goal.returns-in_err-record-clause-items
returns-in_err-record-clause-items c =
    let p = err_from_is_err_and c.from_residual.result c.from_residual.ensures.1 in
    let left = c.loop-word.left.now in
    let first = c.next_word.ensures.first in
    rw p.1 (λ _. listed_bad c.args.line.now left _ c.loop-word.invariant.0 (word_some c.next_word.result.0.now (word left) first c.if-is_empty.ensures) (λ x r i. c.in_err-record.ensures.item x r (subst (λ w. IsItem w x) (sym first) i)))

pub loop-word-smaller : goal.loop-word-smaller
loop-word-smaller c =
    let left = c.loop-word.left.now in
    subst (λ t. length t < length left) (sym c.next_word.ensures.second) (behind_shorter left (word_some c.next_word.result.0.now (word left) c.next_word.ensures.first c.if-is_empty.ensures))

pub loop-word-preserved : goal.loop-word-preserved
loop-word-preserved c =
    let line = c.args.line.now in
    let left = c.loop-word.left.now in
    let x = c.in_ok-record.record in
    let records = vec_items c.loop-word.records in
    let first = c.next_word.ensures.first in
    let more = listed_more line left (items_of records) c.loop-word.invariant.0 (word_some c.next_word.result.0.now (word left) first c.if-is_empty.ensures) (item_of x) (subst (λ w. IsItem w (item_of x)) first c.in_ok-record.ensures.item) in
    let grown = pushed (x ∷ []) refl c.in_ok-push.was c.push.ensures.items in
    let n : length (vec_items c.push.new.self) ≡ suc (length records) = ap length grown ∙ simp length-append (omega arith) in (
      subst (λ t. Listed line t (items_of (vec_items c.push.new.self))) (sym c.next_word.ensures.second) (subst (Listed line (behind left)) (sym (map_push item_of records x) ∙ ap items_of (sym grown)) more),
      c.next_word.ensures.second ∙ ap behind c.loop-word.invariant.1 ∙ sym (ap (λ m. behind_words m line) n),
    )

pub loop-word-init : goal.loop-word-init
loop-word-init c =
    let line = c.args.line.now in
    let none = sym c.new-records.ensures.items in
    (subst (λ rs. Listed line line (items_of rs)) none (listed_none line), ap (λ rs. behind_words (length rs) line) none)

pub returns-in_err-record-clause-fault : goal.returns-in_err-record-clause-fault
returns-in_err-record-clause-fault c =
    let p = err_from_is_err_and c.from_residual.result c.from_residual.ensures.1 in
    let n = length (vec_items c.loop-word.records) in
    let a = c.len.ensures in
    let small = c.loop-word.records.small in
    let ok = c.loop-word.records.ok in
    let m : c.saturating_add.result ≡ n + 1 = omega (arith, a, small, ok) in
    rw (p.1, p.2) (inr (n, subst (λ w. ItemError w (n + 1) c.in_err-record.field-0.0) (c.next_word.ensures.first ∙ ap word c.loop-word.invariant.1) (subst (λ k. ItemError c.next_word.result.0.now k c.in_err-record.field-0.0) m c.in_err-record.ensures.fault)))
