use Rattle.std.proofs.Common.{◌≡◌, ◌*◌, ◌++◌, take, drop}
use Rattle.sheet.specs.Layout.{encoded}
use Rattle.sheet.proofs.write.write_entries.Given as goal

abbrev pub invariant-loop-i : goal.invariant-loop-i
invariant-loop-i g l = l.tail ≡ encoded g.T.Entry.encoding (take l.i l.entries) ++ drop (8 * l.i) l.initial.tail
