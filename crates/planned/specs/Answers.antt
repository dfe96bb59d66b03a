-- Answers as lines of text, in numbers.
use Rattle.std.specs.Prelude.{ℕ, cond, List, [], ◌∷◌, ◌++◌, codes, decimal}
use Rattle.vocabulary.specs.Refusals.{cause_number}
use Rattle.sequencer.specs.Reports.{has_ended, end_in, node_in, code_in}
use Rattle.session.specs.declared.Answer.{Answer}
use Rattle.session.specs.declared.Answer.TheVariants.{Done, Told, Refused}
use Rattle.std.specs.List.{flat_map}

-- `done`; or `status` with whether the take has ended (1 or 0), its end, node, code and steps; or `refused` with number and node
abbrev pub answer_text : Answer → List ℕ
answer_text Done = codes "done"
answer_text (Told r) =
    codes "status " ++ (decimal (cond (has_ended r) 1 0) ++ (codes " " ++ (decimal (end_in r) ++ (codes " " ++ (decimal (node_in r)
    ++ (codes " " ++ (decimal (code_in r) ++ (codes " " ++ decimal r.steps))))))))
answer_text (Refused f) = codes "refused " ++ (decimal (cause_number f.cause) ++ (codes " " ++ decimal f.node))

-- the line of an answer
abbrev pub answer_line : Answer → List ℕ
answer_line a = answer_text a ++ (10 ∷ [])

-- a line for each answer
abbrev pub answers_text : List Answer → List ℕ
answers_text answers = flat_map answer_line answers
