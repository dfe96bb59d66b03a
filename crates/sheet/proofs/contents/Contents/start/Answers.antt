use Rattle.std.proofs.Common.{sym, ◌∙◌}
use Rattle.sheet.proofs.Halves.{start_left}
use Rattle.sheet.proofs.contents.Contents.start.Goals as goal

pub returns-clause-memory : goal.returns-clause-memory
returns-clause-memory c =
    start_left c.args.self.now c.self.inside.nodes.now c.self.inside.code.now c.half-half.result c.args.memory.now c.header_bytes.result c.write_header.new.memory c.write_entries.new.tail
    c.self.view_is (sym c.check_room.ensures ∙ c.in_ok-check_room.was) c.half-half.ensures c.header_bytes.ensures c.write_header.ensures c.write_entries.ensures
