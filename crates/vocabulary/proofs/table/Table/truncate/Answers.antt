use Rattle.std.proofs.Common.{ap, ◌∙◌, take, reverse, rules}
use Rattle.vocabulary.proofs.Tabled.{take_least, reverse-take}
use Rattle.vocabulary.proofs.table.Table.truncate.Goals as goal

pub returns-clause-stacked : goal.returns-clause-stacked
returns-clause-stacked g c =
    ap reverse (take_least c.args.to c.self.inside.count c.min-self-inside.result c.self.inside.places (search rules) (search rules) ∙ ap (take c.args.to) c.self.view_is) ∙ reverse-take c.args.to c.args.self.now
