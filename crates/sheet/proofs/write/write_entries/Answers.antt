use Rattle.std.proofs.Common.{ap, ◌∙◌}
use Rattle.sheet.proofs.Entries.{write_step}
use Rattle.sheet.proofs.write.write_entries.Goals as goal

pub loop-i-preserved : goal.loop-i-preserved
loop-i-preserved g c =
    let m = g.T.Entry in
    write_step m.encoding m.eight c.args.entries.now c.args.tail.now c.loop-i.tail c.copy_from_slice.new.self c.loop-i.i c.index-entries-i.result c.loop-i-test.true c.loop-i.invariant
    (c.copy_from_slice.ensures.after ∙ (c.to_bytes-bytes.ensures ∙ ap m.encoding c.index-entries-i.is))
