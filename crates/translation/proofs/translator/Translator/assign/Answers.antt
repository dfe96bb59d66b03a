use Rattle.std.proofs.Common.{refl, ap, ◌∙◌, arith}
use Rattle.language.specs.Names.{names_c}
use Rattle.language.specs.Reading.{tree_e}
use Rattle.language.specs.Tree.{size_e, size_c}
use Rattle.translation.specs.Held.{visible}
use Rattle.translation.proofs.Commands.{assign_done}
use Rattle.translation.proofs.Forms.{at_c}
use Rattle.translation.proofs.Parts.{ready_e, part_plain, end_e, end_plain, first, second, refused_c, same_c}
use Rattle.translation.proofs.translator.Translator.assign.Goals as goal

pub expression-requires : goal.expression-requires
expression-requires c =
    let k = at_c c.node-node.ensures c.requires.kind c.requires.ready in
    ready_e c.args.self.now refl c.requires.ready.here k.1.0 (omega (arith, c.requires.ready.room, ap size_c k.0))

pub returns-in_err-expression : goal.returns-in_err-expression
unfolding names_c
returns-in_err-expression c =
    let k = at_c c.node-node.ensures c.requires.kind c.requires.ready in
    let p = c.in_err-expression.ensures.is in
    refused_c c.from_residual.result c.from_residual.ensures.1 k.0 (first _ p.answer) p.same p.on

pub emit-requires : goal.emit-requires
emit-requires c =
    let k = at_c c.node-node.ensures c.requires.kind c.requires.ready in
    omega (arith, c.requires.ready.room, ap size_c k.0, end_e c.in_ok-expression.ensures)

pub plain_value-requires : goal.plain_value-requires
plain_value-requires c =
    let k = at_c c.node-node.ensures c.requires.kind c.requires.ready in
    let p = c.in_ok-expression.ensures in
    ready_e c.args.self.now p.is.on c.requires.ready.here k.1.1 (omega (arith, c.requires.ready.room, ap size_c k.0, end_e p, c.emit.ensures.end))

pub returns-in_err-plain_value : goal.returns-in_err-plain_value
unfolding names_c
returns-in_err-plain_value c =
    let k = at_c c.node-node.ensures c.requires.kind c.requires.ready in
    let p = c.in_ok-expression.ensures.is in
    let q = part_plain _ p.on (ap visible p.same) refl c.in_err-plain_value.ensures in
    refused_c c.from_residual-in_err-plain_value.result c.from_residual-in_err-plain_value.ensures.1 k.0 (second p.answer q.answer) (q.same ∙ p.same) (q.on ∙ p.on)

pub emit-requires-2 : goal.emit-requires-2
emit-requires-2 c =
    let k = at_c c.node-node.ensures c.requires.kind c.requires.ready in
    let p = c.in_ok-expression.ensures in
    let q = c.in_ok-plain_value.ensures in
    omega (arith, c.requires.ready.room, ap size_c k.0, end_e p, c.emit.ensures.end, end_plain q, ap (λ ns. size_e (tree_e ns c.node-node.result.b)) p.is.on)

pub returns : goal.returns
returns c =
    let k = at_c c.node-node.ensures c.requires.kind c.requires.ready in
    same_c k.0 (assign_done _ _ c.in_ok-expression.ensures c.emit.ensures c.in_ok-plain_value.ensures c.emit-2.ensures)
