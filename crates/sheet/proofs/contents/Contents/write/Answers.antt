use Rattle.std.proofs.Common.{◌∙◌, sym}
use Rattle.sheet.proofs.Written.{Archived, archived}
use Rattle.sheet.proofs.contents.Contents.write.Goals as goal

written : (c : goal.After-map_err) → Archived c.args.self.now c.args.memory.now c.finish.new.memory c.finish.result
written c = archived c.args.self.now c.args.memory.now c.start.new.memory c.finish.new.memory c.in_ok-half.half c.finish.result c.in_ok-half.ensures.answer c.in_ok-half.ensures.memory c.finish.ensures.answer c.finish.ensures.memory

pub returns-clause-answer : goal.returns-clause-answer
returns-clause-answer c = let a = written c in let m = rw a.answer at c.map_err.ensures.cases in m ∙ sym a.told

pub returns-clause-memory : goal.returns-clause-memory
returns-clause-memory c = (written c).left
