use Rattle.std.proofs.Common.{length, refl, sym, ap, ◌∙◌, arith}
use Rattle.translation.proofs.Declarations.{at_value, value_done}
use Rattle.translation.proofs.Parts.{ready_e, end_plain, refused_d}
use Rattle.translation.proofs.Scopes.{older_same}
use Rattle.translation.proofs.translator.Translator.value_declaration.Goals as goal

pub plain_value-requires : goal.plain_value-requires
plain_value-requires c =
    let k = at_value c.args.self.now c.node-node.ensures c.requires.ready.here c.requires.ready.sort c.requires.kind in
    ready_e c.args.self.now refl c.requires.ready.here k.1 (omega (arith, c.requires.ready.room, k.0.size))

pub returns-in_err-plain_value : goal.returns-in_err-plain_value
returns-in_err-plain_value c =
    let k = at_value c.args.self.now c.node-node.ensures c.requires.ready.here c.requires.ready.sort c.requires.kind in
    let p = c.in_err-plain_value.ensures.is in
    refused_d c.from_residual.result c.from_residual.ensures.1 refl (p.answer ∙ sym (k.0.names _)) (older_same p.same) p.on

pub emit-requires : goal.emit-requires
emit-requires c =
    let k = at_value c.args.self.now c.node-node.ensures c.requires.ready.here c.requires.ready.sort c.requires.kind in
    omega (arith, c.requires.ready.room, k.0.size, end_plain c.in_ok-plain_value.ensures)

pub bind-requires : goal.bind-requires
bind-requires c =
    let k = at_value c.args.self.now c.node-node.ensures c.requires.ready.here c.requires.ready.sort c.requires.kind in
    omega (arith, c.requires.ready.names, k.0.size, ap (λ s. length s.entries) c.in_ok-plain_value.ensures.is.same)

pub returns : goal.returns
returns c =
    let k = at_value c.args.self.now c.node-node.ensures c.requires.ready.here c.requires.ready.sort c.requires.kind in
    value_done k.0 c.in_ok-plain_value.ensures c.emit.ensures c.bind.ensures
