use Rattle.std.proofs.Common.{arith}
use Rattle.std.proofs.lemmas.Grind.{common_steps}
use Rattle.language.proofs.Kinded.{no_sort}
use Rattle.language.proofs.check.Counted.has.Goals as goal

pub returns-in_default-try_from : goal.returns-in_default-try_from
returns-in_default-try_from c =
    let h = no_sort c.args.sort c.in-Some.node.now.kind c.in_default-try_from.ensures in
    grind (arith, common_steps)
