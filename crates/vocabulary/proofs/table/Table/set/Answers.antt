use Rattle.std.proofs.Common.{set, ap, ◌∙◌, rules}
use lib.Seq.{take-set-lt}
use Rattle.vocabulary.proofs.table.Table.set.Goals as goal

pub returns : goal.returns
returns g c = (search rules, take-set-lt c.self.inside.count c.self.inside.places c.args.place c.args.item (search rules) ∙ ap (λ xs. set xs c.args.place c.args.item) c.self.view_is)
