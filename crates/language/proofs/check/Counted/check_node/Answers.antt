use Rattle.std.proofs.Common.{arith}
use Rattle.language.specs.Table.{at}
use Rattle.language.proofs.ByKind.{unknown}
use Rattle.language.proofs.check.Counted.check_node.Goals as goal

pub returns-in_default : goal.returns-in_default
returns-in_default c =
    let f = unknown (at c.args.self.nodes.now c.args.n) (λ i. let lo = i.0 in let hi = i.1 in grind arith) (λ i. let lo = i.0 in let hi = i.1 in grind arith) (λ i. let lo = i.0 in let hi = i.1 in grind arith) in
    rw f (grind arith)
