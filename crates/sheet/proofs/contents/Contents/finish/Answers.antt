use Rattle.std.proofs.Common.{sym, ◌∙◌}
use Rattle.sheet.proofs.Halves.{finish_left}
use Rattle.sheet.proofs.contents.Contents.finish.Goals as goal

pub returns-clause-memory : goal.returns-clause-memory
returns-clause-memory c = finish_left c.args.self.now c.self.inside.nodes.now c.self.inside.code.now c.args.half c.args.memory.now c.complete.new.memory c.self.view_is (sym c.check_half.ensures ∙ c.in_default.is) c.complete.ensures
