use Rattle.std.proofs.Common.{◌≡◌, ℕ, true, List, ◌++◌, drop}
use Rattle.std.specs.Fmt.{HasWritten, IsPlainFormatter}
use Rattle.planned.specs.Leaves.{lines_text}
use Rattle.planned.proofs.show.LinesDisplay.fmt.Given as goal

-- what is written is completed by what is still to come
abbrev pub invariant-loop-byte : goal.invariant-loop-byte
invariant-loop-byte g l =
    IsPlainFormatter l.initial.f
    → (done : List ℕ) × HasWritten g.W.Write.write_str_gives l.initial.f done l.f × (done ++ lines_text l.begins (drop l.byte-index l.byte-items) ≡ lines_text true l.byte-items)
