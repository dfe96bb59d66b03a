use Rattle.std.proofs.Common.{◌+◌, ◌<◌, length, sym, refl, ap, ◌∙◌, arith, rules}
use Rattle.language.specs.Kinds.{kind_number}
use Rattle.language.specs.Names.{names_c, names_d}
use Rattle.language.specs.Reading.{tree_c}
use Rattle.language.specs.Tree.{size_c, size_d}
use Rattle.translation.specs.Held.{text, visible}
use Rattle.translation.proofs.Commands.{output_done, when_done, while_done, block_done, sequence_done}
use Rattle.translation.proofs.Declarations.{at_routine, encloses_function, encloses_procedure, function_body, pair_done, parameter, procedure_body, routine_done, same_body}
use Rattle.translation.proofs.Forms.{at_c, at_d}
use Rattle.translation.proofs.Parts.{ready_e, ready_c, ready_d, part_c, end_plain, end_c, end_d, first, second, refused_c, refused_d, same_c, same_d}
use Rattle.translation.proofs.Scopes.{older_same, older_trans, restored}
use Rattle.translation.proofs.Writing.{counted}
use Rattle.translation.proofs.translator.Translator.+commands.Goals as goal

pub command-plain_value-requires : goal.command-plain_value-requires
command-plain_value-requires t c =
    let k = at_c c.node-node.ensures (sym c.kind.ensures ∙ ap kind_number c.in-Output.is) c.requires in
    ready_e c.args.self.now refl c.requires.here k.1 (omega (arith, c.requires.room, ap size_c k.0))

pub command-returns-in_err-plain_value-in-Output : goal.command-returns-in_err-plain_value-in-Output
unfolding names_c
command-returns-in_err-plain_value-in-Output t c =
    let k = at_c c.node-node.ensures (sym c.kind.ensures ∙ ap kind_number c.in-Output.is) c.requires in
    let p = c.in_err-plain_value-in-Output.ensures.is in
    refused_c c.from_residual.result c.from_residual.ensures.1 k.0 p.answer p.same p.on

pub command-emit-requires : goal.command-emit-requires
command-emit-requires t c =
    let k = at_c c.node-node.ensures (sym c.kind.ensures ∙ ap kind_number c.in-Output.is) c.requires in
    omega (arith, c.requires.room, ap size_c k.0, end_plain c.in_ok-plain_value-in-Output.ensures)

pub command-returns-in_ok-plain_value-in-Output : goal.command-returns-in_ok-plain_value-in-Output
command-returns-in_ok-plain_value-in-Output t c =
    let k = at_c c.node-node.ensures (sym c.kind.ensures ∙ ap kind_number c.in-Output.is) c.requires in
    same_c k.0 (output_done _ c.in_ok-plain_value-in-Output.ensures c.emit.ensures)

pub command-command-requires : goal.command-command-requires
command-command-requires t c =
    let k = at_c c.node-node.ensures (sym c.kind.ensures ∙ ap kind_number c.in-Sequence.is) c.requires in
    (omega (arith, k.1.0.0), ready_c c.args.self.now refl c.requires.here k.1.0 (omega (arith, c.requires.room, ap size_c k.0)) (omega (arith, c.requires.names, ap size_c k.0)))

pub command-returns-in_err-command-in-Sequence : goal.command-returns-in_err-command-in-Sequence
unfolding names_c
command-returns-in_err-command-in-Sequence t c =
    let k = at_c c.node-node.ensures (sym c.kind.ensures ∙ ap kind_number c.in-Sequence.is) c.requires in
    let p = c.in_err-command-in-Sequence.ensures.is in
    refused_c c.from_residual-in_err-command-in-Sequence.result c.from_residual-in_err-command-in-Sequence.ensures.1 k.0 (first _ p.answer) p.same p.on

pub command-command-requires-in-Sequence : goal.command-command-requires-in-Sequence
command-command-requires-in-Sequence t c =
    let k = at_c c.node-node.ensures (sym c.kind.ensures ∙ ap kind_number c.in-Sequence.is) c.requires in
    let p = c.in_ok-command-in-Sequence.ensures in
    (omega (arith, k.1.1.0), ready_c c.args.self.now p.is.on c.requires.here k.1.1 (omega (arith, c.requires.room, ap size_c k.0, end_c p)) (omega (arith, c.requires.names, ap size_c k.0, ap (λ s. length s.entries) p.is.same)))

pub command-returns-in_ok-command-in-Sequence : goal.command-returns-in_ok-command-in-Sequence
unfolding names_c
command-returns-in_ok-command-in-Sequence t c =
    let k = at_c c.node-node.ensures (sym c.kind.ensures ∙ ap kind_number c.in-Sequence.is) c.requires in
    same_c k.0 (sequence_done _ _ _ c.in_ok-command-in-Sequence.ensures c.command-in-Sequence.ensures)

pub command-call-requires : goal.command-call-requires
command-call-requires t c =
    let k = at_c refl (sym c.kind.ensures ∙ ap kind_number c.in-ProcedureCall.is) c.requires in
    record { here = c.requires.here; argument = k.1; room = omega (arith, c.requires.room, ap size_c k.0) }

pub command-returns-in-ProcedureCall : goal.command-returns-in-ProcedureCall
unfolding names_c
command-returns-in-ProcedureCall t c =
    let k = at_c refl (sym c.kind.ensures ∙ ap kind_number c.in-ProcedureCall.is) c.requires in
    same_c k.0 (record { is = c.call.ensures.is })

pub declaration-declaration-requires : goal.declaration-declaration-requires
declaration-declaration-requires t c =
    let k = at_d c.args.self.now c.node-node.ensures (sym c.kind.ensures ∙ ap kind_number c.in-Pair.is) c.requires.here c.requires.sort in
    (omega (arith, k.1.0.0), ready_d c.args.self.now refl c.requires.here k.1.0 (omega (arith, c.requires.room, ap size_d k.0)) (omega (arith, c.requires.names, ap size_d k.0)))

pub declaration-returns-in_err-declaration-in-Pair : goal.declaration-returns-in_err-declaration-in-Pair
unfolding names_d
declaration-returns-in_err-declaration-in-Pair t c =
    let k = at_d c.args.self.now c.node-node.ensures (sym c.kind.ensures ∙ ap kind_number c.in-Pair.is) c.requires.here c.requires.sort in
    let p = c.in_err-declaration-in-Pair.ensures in
    refused_d c.from_residual.result c.from_residual.ensures.1 k.0 (first _ p.answer) p.older p.on

pub declaration-declaration-requires-in-Pair : goal.declaration-declaration-requires-in-Pair
declaration-declaration-requires-in-Pair t c =
    let k = at_d c.args.self.now c.node-node.ensures (sym c.kind.ensures ∙ ap kind_number c.in-Pair.is) c.requires.here c.requires.sort in
    let p = c.in_ok-declaration-in-Pair.ensures in
    (omega (arith, k.1.1.0), ready_d c.args.self.now p.on c.requires.here k.1.1 (omega (arith, c.requires.room, ap size_d k.0, end_d p)) (omega (arith, c.requires.names, ap size_d k.0, p.declared.1)))

pub declaration-returns-in_ok-declaration-in-Pair : goal.declaration-returns-in_ok-declaration-in-Pair
declaration-returns-in_ok-declaration-in-Pair t c =
    let k = at_d c.args.self.now c.node-node.ensures (sym c.kind.ensures ∙ ap kind_number c.in-Pair.is) c.requires.here c.requires.sort in
    same_d k.0 (pair_done _ _ _ c.in_ok-declaration-in-Pair.ensures c.declaration-in-Pair.ensures)

pub conditional-plain_value-requires : goal.conditional-plain_value-requires
conditional-plain_value-requires t c =
    let k = at_c c.node-node.ensures c.requires.kind c.requires.ready in
    ready_e c.args.self.now refl c.requires.ready.here k.1.0 (omega (arith, c.requires.ready.room, ap size_c k.0))

pub conditional-returns-in_err-plain_value : goal.conditional-returns-in_err-plain_value
unfolding names_c
conditional-returns-in_err-plain_value t c =
    let k = at_c c.node-node.ensures c.requires.kind c.requires.ready in
    let p = c.in_err-plain_value.ensures.is in
    refused_c c.from_residual.result c.from_residual.ensures.1 k.0 (first _ p.answer) p.same p.on

pub conditional-reserve-past-requires : goal.conditional-reserve-past-requires
conditional-reserve-past-requires t c =
    let k = at_c c.node-node.ensures c.requires.kind c.requires.ready in
    omega (arith, c.requires.ready.room, ap size_c k.0, end_plain c.in_ok-plain_value.ensures)

pub conditional-command-requires : goal.conditional-command-requires
conditional-command-requires t c =
    let k = at_c c.node-node.ensures c.requires.kind c.requires.ready in
    let p = c.in_ok-plain_value.ensures in (
      omega (arith, k.1.1.0),
      ready_c c.args.self.now p.is.on c.requires.ready.here k.1.1
          (omega (arith, c.requires.ready.room, ap size_c k.0, end_plain p, c.reserve-past.ensures.added.end))
          (omega (arith, c.requires.ready.names, ap size_c k.0, ap (λ s. length s.entries) p.is.same)),
    )

pub conditional-returns-in_err-command : goal.conditional-returns-in_err-command
unfolding names_c
conditional-returns-in_err-command t c =
    let k = at_c c.node-node.ensures c.requires.kind c.requires.ready in
    let p = c.in_ok-plain_value.ensures.is in
    let q = part_c _ p.on (ap visible p.same) refl c.in_err-command.ensures in
    refused_c c.from_residual-in_err-command.result c.from_residual-in_err-command.ensures.1 k.0 (second p.answer (first _ q.answer)) (q.same ∙ p.same) (q.on ∙ p.on)

pub conditional-reserve-end-requires : goal.conditional-reserve-end-requires
conditional-reserve-end-requires t c =
    let k = at_c c.node-node.ensures c.requires.kind c.requires.ready in
    let p = c.in_ok-plain_value.ensures in
    let b = ap (λ ns. size_c (tree_c ns c.node-node.result.b)) p.is.on in
    omega (arith, c.requires.ready.room, ap size_c k.0, end_plain p, c.reserve-past.ensures.added.end, end_c c.in_ok-command.ensures, b)

pub conditional-command-requires-2 : goal.conditional-command-requires-2
conditional-command-requires-2 t c =
    let k = at_c c.node-node.ensures c.requires.kind c.requires.ready in
    let p = c.in_ok-plain_value.ensures in
    let q = c.in_ok-command.ensures in
    let b = ap (λ ns. size_c (tree_c ns c.node-node.result.b)) p.is.on in (
      omega (arith, k.1.2.0),
      ready_c c.args.self.now (q.is.on ∙ p.is.on) c.requires.ready.here k.1.2
          (omega (arith, c.requires.ready.room, ap size_c k.0, end_plain p, c.reserve-past.ensures.added.end, end_c q, b, c.reserve-end.ensures.added.end, c.aim.ensures.end))
          (omega (arith, c.requires.ready.names, ap size_c k.0, ap (λ s. length s.entries) (q.is.same ∙ p.is.same))),
    )

pub conditional-returns-in_err-command-2 : goal.conditional-returns-in_err-command-2
unfolding names_c
conditional-returns-in_err-command-2 t c =
    let k = at_c c.node-node.ensures c.requires.kind c.requires.ready in
    let p = c.in_ok-plain_value.ensures.is in
    let q = part_c _ p.on (ap visible p.same) refl c.in_ok-command.ensures in
    let r = part_c _ (q.on ∙ p.on) (ap visible (q.same ∙ p.same)) refl c.in_err-command-2.ensures in
    refused_c c.from_residual-in_err-command-2.result c.from_residual-in_err-command-2.ensures.1 k.0 (second p.answer (second q.answer r.answer)) (r.same ∙ q.same ∙ p.same) (r.on ∙ q.on ∙ p.on)

pub conditional-returns : goal.conditional-returns
conditional-returns t c =
    let k = at_c c.node-node.ensures c.requires.kind c.requires.ready in
    same_c k.0 (when_done _ _ _ c.in_ok-plain_value.ensures c.reserve-past.ensures c.in_ok-command.ensures c.reserve-end.ensures c.here.ensures c.aim.ensures c.in_ok-command-2.ensures c.here-2.ensures c.aim-2.ensures)

pub repetition-plain_value-requires : goal.repetition-plain_value-requires
repetition-plain_value-requires t c =
    let k = at_c c.node-node.ensures c.requires.kind c.requires.ready in
    ready_e c.args.self.now refl c.requires.ready.here k.1.0 (omega (arith, c.requires.ready.room, ap size_c k.0))

pub repetition-returns-in_err-plain_value : goal.repetition-returns-in_err-plain_value
unfolding names_c
repetition-returns-in_err-plain_value t c =
    let k = at_c c.node-node.ensures c.requires.kind c.requires.ready in
    let p = c.in_err-plain_value.ensures.is in
    refused_c c.from_residual.result c.from_residual.ensures.1 k.0 (first _ p.answer) p.same p.on

pub repetition-reserve-past-requires : goal.repetition-reserve-past-requires
repetition-reserve-past-requires t c =
    let k = at_c c.node-node.ensures c.requires.kind c.requires.ready in
    omega (arith, c.requires.ready.room, ap size_c k.0, end_plain c.in_ok-plain_value.ensures)

pub repetition-command-requires : goal.repetition-command-requires
repetition-command-requires t c =
    let k = at_c c.node-node.ensures c.requires.kind c.requires.ready in
    let p = c.in_ok-plain_value.ensures in (
      omega (arith, k.1.1.0),
      ready_c c.args.self.now p.is.on c.requires.ready.here k.1.1
          (omega (arith, c.requires.ready.room, ap size_c k.0, end_plain p, c.reserve-past.ensures.added.end))
          (omega (arith, c.requires.ready.names, ap size_c k.0, ap (λ s. length s.entries) p.is.same)),
    )

pub repetition-returns-in_err-command : goal.repetition-returns-in_err-command
unfolding names_c
repetition-returns-in_err-command t c =
    let k = at_c c.node-node.ensures c.requires.kind c.requires.ready in
    let p = c.in_ok-plain_value.ensures.is in
    let q = part_c _ p.on (ap visible p.same) refl c.in_err-command.ensures in
    refused_c c.from_residual-in_err-command.result c.from_residual-in_err-command.ensures.1 k.0 (second p.answer q.answer) (q.same ∙ p.same) (q.on ∙ p.on)

pub repetition-emit-requires : goal.repetition-emit-requires
repetition-emit-requires t c =
    let k = at_c c.node-node.ensures c.requires.kind c.requires.ready in
    let p = c.in_ok-plain_value.ensures in
    let b = ap (λ ns. size_c (tree_c ns c.node-node.result.b)) p.is.on in
    omega (arith, c.requires.ready.room, ap size_c k.0, end_plain p, c.reserve-past.ensures.added.end, end_c c.in_ok-command.ensures, b)

pub repetition-returns : goal.repetition-returns
repetition-returns t c =
    let k = at_c c.node-node.ensures c.requires.kind c.requires.ready in
    same_c k.0 (while_done _ _ c.here-start.ensures c.in_ok-plain_value.ensures c.reserve-past.ensures c.in_ok-command.ensures c.emit.ensures c.here.ensures c.aim.ensures)

pub block-emit-requires : goal.block-emit-requires
block-emit-requires t c =
    let k = at_c c.node-node.ensures c.requires.kind c.requires.ready in
    omega (arith, c.requires.ready.room, ap size_c k.0)

pub block-declaration-requires : goal.block-declaration-requires
block-declaration-requires t c =
    let k = at_c c.node-node.ensures c.requires.kind c.requires.ready in (
      omega (arith, k.1.0.0),
      ready_d c.args.self.now refl c.requires.ready.here k.1.0
          (omega (arith, c.requires.ready.room, ap size_c k.0, c.emit.ensures.end))
          (omega (arith, c.requires.ready.names, ap size_c k.0)),
    )

pub block-returns-in_err-declaration : goal.block-returns-in_err-declaration
unfolding names_c
block-returns-in_err-declaration t c =
    let k = at_c c.node-node.ensures c.requires.kind c.requires.ready in
    let p = c.in_err-declaration.ensures in
    let m = c.drop-block.ensures in
    refused_c c.from_residual.result c.from_residual.ensures.1 k.0 (first _ p.answer) (restored c.len-was.ensures.value p.older m) (m.on ∙ p.on)

pub block-command-requires : goal.block-command-requires
block-command-requires t c =
    let k = at_c c.node-node.ensures c.requires.kind c.requires.ready in
    let p = c.in_ok-declaration.ensures in (
      omega (arith, k.1.1.0),
      ready_c c.args.self.now p.on c.requires.ready.here k.1.1
          (omega (arith, c.requires.ready.room, ap size_c k.0, c.emit.ensures.end, end_d p))
          (omega (arith, c.requires.ready.names, ap size_c k.0, p.declared.1)),
    )

pub block-returns-in_err-command : goal.block-returns-in_err-command
unfolding names_c
block-returns-in_err-command t c =
    let k = at_c c.node-node.ensures c.requires.kind c.requires.ready in
    let p = c.in_ok-declaration.ensures in
    let q = part_c _ p.on p.declared.0 refl c.in_err-command.ensures in
    let m = c.drop-block-in_err-command.ensures in
    refused_c c.from_residual-in_err-command.result c.from_residual-in_err-command.ensures.1 k.0 (second p.answer q.answer) (restored c.len-was.ensures.value (older_trans p.older (older_same q.same)) m) (m.on ∙ q.on ∙ p.on)

pub block-emit-requires-2 : goal.block-emit-requires-2
block-emit-requires-2 t c =
    let k = at_c c.node-node.ensures c.requires.kind c.requires.ready in
    let p = c.in_ok-declaration.ensures in
    let b = ap (λ ns. size_c (tree_c ns c.node-node.result.b)) p.on in
    omega (arith, c.requires.ready.room, ap size_c k.0, c.emit.ensures.end, end_d p, end_c c.in_ok-command.ensures, b)

pub block-returns : goal.block-returns
block-returns t c =
    let k = at_c c.node-node.ensures c.requires.kind c.requires.ready in
    same_c k.0 (block_done _ _ c.emit.ensures c.in_ok-declaration.ensures c.in_ok-command.ensures c.emit-2.ensures c.len-was.ensures.value c.drop-block-2.ensures)

pub routine-emit-requires : goal.routine-emit-requires
routine-emit-requires t c =
    let k = at_routine c.args.self.now c.node-node.ensures c.requires.ready.here c.requires.ready.sort c.requires.kind in
    omega (arith, c.requires.ready.room, k.some)

pub routine-reserve-past-requires : goal.routine-reserve-past-requires
routine-reserve-past-requires t c =
    let k = at_routine c.args.self.now c.node-node.ensures c.requires.ready.here c.requires.ready.sort c.requires.kind in
    omega (arith, c.requires.ready.room, k.some, c.emit.ensures.end)

pub routine-emit-requires-2 : goal.routine-emit-requires-2
routine-emit-requires-2 t c =
    let k = at_routine c.args.self.now c.node-node.ensures c.requires.ready.here c.requires.ready.sort c.requires.kind in
    omega (arith, c.requires.ready.room, c.emit.ensures.end, c.reserve-past.ensures.added.end, counted c.in_ok-body.ensures.is.wrote, k.few (visible c.args.self.now.scope) (length (text c.reserve-past.new.self)))

pub routine-returns : goal.routine-returns
routine-returns t c =
    let k = at_routine c.args.self.now c.node-node.ensures c.requires.ready.here c.requires.ready.sort c.requires.kind in
    routine_done k (ap (λ i. i + 2) c.here-start.ensures) c.emit.ensures c.reserve-past.ensures c.in_ok-body.ensures c.emit-2.ensures c.here.ensures c.aim.ensures c.bind.ensures

pub body-overflow_cast-parameter : goal.body-overflow_cast-parameter
body-overflow_cast-parameter t c =
    let h : c.node-node.result.c < 256 = parameter c.args.self.now c.node-node.ensures c.requires.ready.here c.requires.kind in
    search rules

pub body-bind-requires : goal.body-bind-requires
body-bind-requires t c =
    let k = at_routine c.args.self.now c.node-node.ensures c.requires.ready.here c.requires.ready.sort c.requires.kind in
    omega (arith, c.requires.ready.names, k.some)

pub body-command-requires : goal.body-command-requires
body-command-requires t c =
    let k = at_d c.args.self.now c.node-node.ensures (encloses_procedure c.in-Procedure.is c.requires.kind) c.requires.ready.here c.requires.ready.sort in (
      omega (arith, k.1.0),
      ready_c c.args.self.now refl c.requires.ready.here k.1
          (omega (arith, c.requires.ready.room, ap size_d k.0))
          (omega (arith, c.requires.ready.names, ap size_d k.0, c.bind.ensures.more)),
    )

pub body-returns-in-Procedure : goal.body-returns-in-Procedure
body-returns-in-Procedure t c =
    let k = at_d c.args.self.now c.node-node.ensures (encloses_procedure c.in-Procedure.is c.requires.kind) c.requires.ready.here c.requires.ready.sort in
    same_body k.0 (procedure_body _ c.bind.ensures c.command.ensures c.len-was.ensures.value c.drop-body.ensures)

pub body-expression-requires : goal.body-expression-requires
body-expression-requires t c =
    let k = at_d c.args.self.now c.node-node.ensures (encloses_function c.in-Value.is c.requires.kind) c.requires.ready.here c.requires.ready.sort in
    ready_e c.args.self.now refl c.requires.ready.here k.1 (omega (arith, c.requires.ready.room, ap size_d k.0))

pub body-returns : goal.body-returns
body-returns t c =
    let k = at_d c.args.self.now c.node-node.ensures (encloses_function c.in-Value.is c.requires.kind) c.requires.ready.here c.requires.ready.sort in
    same_body k.0 (function_body _ c.bind.ensures c.expression.ensures c.len-was.ensures.value c.drop-body-2.ensures)
