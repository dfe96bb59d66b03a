use Rattle.std.proofs.Common.{◌≡◌, Some, subst, arith, rules}
use Rattle.std.proofs.lemmas.Grind.{common_steps}
use Rattle.language.specs.Fields.{fields_of}
use Rattle.language.proofs.Kinded.{children_none, children_some}
use Rattle.language.proofs.rules.children.Goals as goal

pub returns-after-loop-field : goal.returns-after-loop-field
returns-after-loop-field c =
    let e : fields_of c.args.node.kind ≡ Some c.fields.result = subst (λ n. fields_of n ≡ Some c.fields.result) c.in-Ok.ensures c.fields.ensures in
    let h = children_some c.args.node c.fields.result e in
    grind (arith, common_steps)

pub returns-in_default : goal.returns-in_default
returns-in_default c = let h = children_none c.args.node c.in_default.ensures in search rules
