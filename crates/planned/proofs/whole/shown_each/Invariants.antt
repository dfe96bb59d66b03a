use Rattle.std.proofs.Common.{◌≡◌, ℕ, List, [], ◌∷◌, ◌++◌, Some, take, vec_items}
use Rattle.std.specs.List.{flat_map}
use Rattle.planned.specs.Printouts.{lines_shown}
use Rattle.planned.proofs.whole.shown_each.Given as goal

-- the pieces of those before this one are the lines so far
abbrev pub invariant-loop-answer : goal.invariant-loop-answer
invariant-loop-answer g l =
    (piece : _) → ((a : _) (d : _) → goal.F-post g l.fn.shown a d → (word : List ℕ) × (g.D.Display.output d ≡ Some word) × (piece a ≡ word ++ (10 ∷ [])))
    → lines_shown g.D.Display.output (vec_items l.all) ≡ Some (flat_map piece (take l.answer-index l.answers))
