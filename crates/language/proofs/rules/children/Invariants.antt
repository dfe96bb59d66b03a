use Rattle.std.proofs.Common.{◌≡◌, ◌≤◌, length, take}
use Rattle.std.specs.List.{flat_map}
use Rattle.language.specs.Fields.{child_in}
use Rattle.language.proofs.rules.children.Given as goal

-- the children in the fields so far
abbrev pub invariant-loop-field : goal.invariant-loop-field
invariant-loop-field l = (length l.children ≤ l.field-index) × (l.children ≡ flat_map (λ f. child_in f.rule f.value) (take l.field-index l.field-items))
