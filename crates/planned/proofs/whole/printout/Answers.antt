use Rattle.std.proofs.Common.{◌≡◌, false, List, ◌++◌, Some, vec_items, inl, inr, refl, ap, ◌∙◌}
use Rattle.std.specs.List.{flat_map}
use Rattle.std.specs.Fmt.{option_append}
use Rattle.vocabulary.specs.declared.refusal.Cause.TheVariants.{RampRange}
use Rattle.vocabulary.specs.declared.refusal.Refusal.{Refusal}
use Rattle.vocabulary.specs.Refusals.{refusal}
use Rattle.session.specs.declared.Answer.{Answer}
use Rattle.session.specs.declared.Answer.TheVariants.{Refused}
use Rattle.planned.specs.Answers.{answer_line}
use Rattle.planned.specs.Carried.{feed_fits}
use Rattle.planned.specs.Leaves.{left_text}
use Rattle.planned.proofs.whole.printout.Goals as goal

pub returns-in-Ok : goal.returns-in-Ok
returns-in-Ok g c = λ piece h.
    let outcome = c.in-Ok.field-0 in
    let answers = vec_items outcome.answer in (
      flat_map piece answers ++ left_text outcome.left,
      ap (λ o. option_append o (Some (left_text outcome.left))) (c.in_ok-answers-in-Ok.ensures piece h ∙ ap (λ (xs : List Answer). Some (flat_map piece xs)) c.as_slice.ensures.value),
      inl (answers, outcome.left, c.in-Ok.ensures.0, c.in-Ok.ensures.1, refl),
    )

pub returns-in-Err-Refused : goal.returns-in-Err-Refused
returns-in-Err-Refused g c = λ piece h.
    let said : (feed_fits c.args.session.now.feed ≡ false) × (c.in-Err-Refused.refusal ≡ refusal RampRange 0) = rw c.in-Err-Refused.field-0-is at c.in-Err-Refused.ensures in
    (answer_line (Refused (refusal RampRange 0)), rw c.in-Err-Refused.field-0-is (ap (λ (r : Refusal). Some (answer_line (Refused r))) said.1), inr (said.0, refl))
