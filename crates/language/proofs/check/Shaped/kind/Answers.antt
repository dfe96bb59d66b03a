use Rattle.std.proofs.Common.{◌≡◌, true, false, sym, ◌∙◌, subst}
use Rattle.language.specs.Fields.{formed}
use Rattle.language.specs.Table.{at}
use Rattle.language.proofs.Kinded.{formed_none}
use Rattle.language.proofs.Shape.{shaped}
use Rattle.language.proofs.check.Shaped.kind.Goals as goal

-- a node of accepted shape is formed, so its kind is known
pub unreachable-requires : goal.unreachable-requires
unreachable-requires c =
    let nodes = c.args.self.nodes.now in
    let yes = subst (λ n. formed (at nodes n) ≡ true) (sym c.from.ensures) ((shaped nodes c.args.self.shape).keep c.args.n c.requires).fields in
    let no : true ≡ false = sym yes ∙ formed_none (at nodes c.from.result) c.in-Err.ensures in
    cc
