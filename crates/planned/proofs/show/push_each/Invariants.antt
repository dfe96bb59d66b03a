use Rattle.std.proofs.Common.{◌≡◌, ℕ, List, ◌++◌, Some, take, string_bytes}
use Rattle.std.specs.List.{flat_map}
use Rattle.planned.proofs.show.push_each.Given as goal

-- the pieces of those before this one are added
abbrev pub invariant-loop-item : goal.invariant-loop-item
invariant-loop-item g l =
    (piece : _) → ((a : _) (d : _) → goal.F-post g l.fn.shown a d → (word : List ℕ) × (g.D.Display.output d ≡ Some word) × (piece a ≡ l.before ++ (word ++ l.after)))
    → string_bytes l.text ≡ string_bytes l.initial.text ++ flat_map piece (take l.item-index l.items)
