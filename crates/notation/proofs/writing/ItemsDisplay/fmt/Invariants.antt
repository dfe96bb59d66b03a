use Rattle.std.proofs.Common.{◌∷◌, map, take}
use Rattle.std.specs.List.{flat_map}
use Rattle.std.specs.Fmt.{HasWritten, IsPlainFormatter}
use Rattle.ports.specs.Traces.{items_of}
use Rattle.notation.specs.Lines.{item_word}
use Rattle.notation.proofs.writing.ItemsDisplay.fmt.Given as goal

abbrev pub invariant-loop-record : goal.invariant-loop-record
invariant-loop-record g l = IsPlainFormatter l.initial.f → HasWritten g.W.Write.write_str_gives l.initial.f (flat_map (λ w. 32 ∷ w) (map item_word (items_of (take l.record-index l.record-items)))) l.f
