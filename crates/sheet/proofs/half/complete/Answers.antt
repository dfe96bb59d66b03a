use Rattle.std.proofs.Common.{ℕ, ◌+◌, ◌-◌, ◌*◌, List, ◌++◌, length, drop, ap, ◌∙◌}
use borrow.Rule.Slice.PartMut.{put_mid}
use Rattle.sheet.specs.Layout.{code_bytes, header}
use Rattle.sheet.proofs.Halves.{completed}
use Rattle.sheet.proofs.half.complete.Goals as goal

pub returns : goal.returns
returns c =
    let M = c.args.memory.now in
    let n = length c.args.code.now in
    let a = c.args.half.code_at in
    completed M (code_bytes c.args.code.now) (header c.args.half.nodes n a (a + 8 * n)) c.write_header.new.memory c.write_entries.new.tail a (8 * n) c.requires.start c.requires.room c.write_entries.ensures
    (c.write_header.ensures ∙ ap (λ (h : List ℕ). h ++ drop 16 (put_mid a (length M - a) M c.write_entries.new.tail)) c.header_bytes.ensures)
