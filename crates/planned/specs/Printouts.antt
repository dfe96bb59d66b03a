-- What a session prints, as it is held before it is printed.
use Rattle.std.specs.Prelude.{ℕ, List, [], ◌∷◌, vec_items, Option, Some}
use Rattle.std.specs.Fmt.{option_append, with_newline}
use Rattle.session.specs.declared.Answer.TheVariants.{Refused as RefusedAnswer}
use Rattle.planned.specs.Answers.{answer_line}
use Rattle.planned.specs.Leaves.{left_text}
use Rattle.planned.specs.declared.show.Printout.{Printout}
use Rattle.planned.specs.declared.show.Printout.TheVariants.{Carried, Refused}

-- what is shown, a line each; nothing is said where one of them states no text
abbrev pub lines_shown : {D : Type 0} → (D → Option (List ℕ)) → List D → Option (List ℕ)
lines_shown text [] = Some []
lines_shown text (d ∷ ds) = option_append (with_newline (text d)) (lines_shown text ds)

-- the answers, a line each, and then what is left; or the line of a refusal
abbrev pub printout_text : {D : Type 0} → (D → Option (List ℕ)) → Printout D → Option (List ℕ)
printout_text text (Carried answers left) = option_append (lines_shown text (vec_items answers)) (Some (left_text left))
printout_text text (Refused refusal) = Some (answer_line (RefusedAnswer refusal))
