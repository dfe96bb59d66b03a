use Rattle.std.proofs.Common.{rules, ℕ, List, ◌++◌, refl, ap, ◌∙◌}
use Rattle.planned.specs.Answers.{answer_line, answer_text, answers_text}
use Rattle.planned.proofs.show.answers_in_numbers.Goals as goal

pub returns : goal.returns
returns c =
    c.in_ok-push_each.ensures answer_line (λ a d p. (answer_text a, search rules, refl))
    ∙ ap (λ (t : List ℕ). t ++ answers_text c.args.answers.now) c.new-text.ensures.bytes
