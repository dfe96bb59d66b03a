use Rattle.std.proofs.Common.{◌≡◌, [], ◌∷◌, sym, ap, ◌∙◌, subst, arith, w32, SFits, rules}
use Rattle.std.proofs.lemmas.Int.{to_z-of_z}
use Rattle.std.proofs.lemmas.Result.{err_from_is_err_and}
use Rattle.notation.specs.Words.{Words, behind}
use Rattle.notation.specs.Numbers.{Signed}
use Rattle.notation.proofs.Behind.{ramp_bad, ramp_said}
use Rattle.notation.proofs.reading.read_ramp.Goals as goal

pub returns-in_err-count-clause-said : goal.returns-in_err-count-clause-said
returns-in_err-count-clause-said c =
    let p = err_from_is_err_and c.from_residual-in_err-count.result c.from_residual-in_err-count.ensures.1 in
    let third : c.next_word-2.result.1.now ≡ behind (behind c.args.rest.now) = c.next_word-2.ensures.second ∙ ap behind c.next_word.ensures.second in
    rw p.1 (λ _. ramp_bad c.args.rest.now (λ start step count f g h q. c.in_err-count.ensures.number count (omega arith) q.2 (subst (λ t. Words t (q.2 ∷ [])) (sym third) q.3.2.2) q.6))

pub returns-clause-said : goal.returns-clause-said
returns-clause-said c =
    let start = c.in_ok-start.start in
    let step = c.in_ok-step.step in
    let f : SFits w32 start = search rules in
    let g : SFits w32 step = search rules in
    let a : Signed c.next_word.result.0.now start = search rules in
    let b : Signed c.next_word-2.result.0.now step = search rules in
    ramp_said _ _ _ _ _ _ _ _ c.next_word.ensures.first c.next_word.ensures.second c.next_word-2.ensures.first c.next_word-2.ensures.second (subst (Signed c.next_word.result.0.now) (sym (to_z-of_z w32 start f)) a) (subst (Signed c.next_word-2.result.0.now) (sym (to_z-of_z w32 step g)) b) c.in_ok-count.ensures.number.1
