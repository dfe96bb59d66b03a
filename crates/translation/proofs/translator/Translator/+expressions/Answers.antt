use Rattle.std.proofs.Common.{sym, refl, ap, ◌∙◌, arith, w32, SFits, rules}
use Rattle.std.proofs.lemmas.Int.{to_z-of_z}
use Rattle.vocabulary.specs.declared.node.Node.{Node}
use Rattle.language.specs.Kinds.{kind_number}
use Rattle.language.specs.Names.{names_e}
use Rattle.language.specs.Reading.{tree_e}
use Rattle.language.specs.Tree.{size_e}
use Rattle.translation.specs.Held.{visible}
use Rattle.translation.specs.Translated.{nodes}
use Rattle.translation.proofs.Expressions.{number_done, name_done, plain_done, operation_done, choice_done}
use Rattle.translation.proofs.Forms.{at_e, sound_of, numbered_e}
use Rattle.translation.proofs.Parts.{ready_e, part_e, part_plain, end_e, end_plain, some_e, first, second, refused_e, same_e}
use Rattle.translation.proofs.translator.Translator.+expressions.Goals as goal

pub plain_value-emit-requires : goal.plain_value-emit-requires
plain_value-emit-requires t c = omega (arith, c.requires.room, end_e c.in_ok-expression.ensures)

pub plain_value-returns : goal.plain_value-returns
plain_value-returns t c = plain_done (numbered_e _ (sound_of c.args.self.now) _ c.requires.here c.requires.sort) c.in_ok-expression.ensures c.emit.ensures

pub call-emit-requires : goal.call-emit-requires
call-emit-requires t c =
    omega (arith, c.requires.room, end_e c.in_ok-expression.ensures, ap (λ (d : Node). size_e (tree_e (nodes c.args.self.now) d.a)) c.node-node.ensures)

pub choice-plain_value-requires : goal.choice-plain_value-requires
choice-plain_value-requires t c =
    let k = at_e c.node-node.ensures c.requires.kind c.requires.ready in
    (omega (arith, k.1.0.0), ready_e c.args.self.now refl c.requires.ready.here k.1.0 (omega (arith, c.requires.ready.room, ap size_e k.0)))

pub choice-returns-in_err-plain_value : goal.choice-returns-in_err-plain_value
unfolding names_e
choice-returns-in_err-plain_value t c =
    let k = at_e c.node-node.ensures c.requires.kind c.requires.ready in
    let p = c.in_err-plain_value.ensures.is in
    refused_e c.from_residual.result c.from_residual.ensures.1 k.0 (first _ p.answer) p.same p.on

pub choice-reserve-past-requires : goal.choice-reserve-past-requires
choice-reserve-past-requires t c =
    let k = at_e c.node-node.ensures c.requires.kind c.requires.ready in
    omega (arith, c.requires.ready.room, ap size_e k.0, end_plain c.in_ok-plain_value.ensures)

pub choice-expression-requires : goal.choice-expression-requires
choice-expression-requires t c =
    let k = at_e c.node-node.ensures c.requires.kind c.requires.ready in
    let p = c.in_ok-plain_value.ensures in
    (omega (arith, k.1.1.0), ready_e c.args.self.now p.is.on c.requires.ready.here k.1.1 (omega (arith, c.requires.ready.room, ap size_e k.0, end_plain p, c.reserve-past.ensures.added.end)))

pub choice-returns-in_err-expression : goal.choice-returns-in_err-expression
unfolding names_e
choice-returns-in_err-expression t c =
    let k = at_e c.node-node.ensures c.requires.kind c.requires.ready in
    let p = c.in_ok-plain_value.ensures.is in
    let q = part_e _ p.on (ap visible p.same) refl c.in_err-expression.ensures in
    refused_e c.from_residual-in_err-expression.result c.from_residual-in_err-expression.ensures.1 k.0 (second p.answer (first _ q.answer)) (q.same ∙ p.same) (q.on ∙ p.on)

pub choice-reserve-end-requires : goal.choice-reserve-end-requires
choice-reserve-end-requires t c =
    let k = at_e c.node-node.ensures c.requires.kind c.requires.ready in
    let p = c.in_ok-plain_value.ensures in
    let q = c.in_ok-expression.ensures in
    let b = ap (λ ns. size_e (tree_e ns c.node-node.result.b)) p.is.on in
    omega (arith, c.requires.ready.room, ap size_e k.0, end_plain p, c.reserve-past.ensures.added.end, end_e q, b)

pub choice-expression-requires-2 : goal.choice-expression-requires-2
choice-expression-requires-2 t c =
    let k = at_e c.node-node.ensures c.requires.kind c.requires.ready in
    let p = c.in_ok-plain_value.ensures in
    let q = c.in_ok-expression.ensures in
    let b = ap (λ ns. size_e (tree_e ns c.node-node.result.b)) p.is.on in
    (omega (arith, k.1.2.0), ready_e c.args.self.now (q.is.on ∙ p.is.on) c.requires.ready.here k.1.2 (omega (arith, c.requires.ready.room, ap size_e k.0, end_plain p, c.reserve-past.ensures.added.end, end_e q, b, c.reserve-end.ensures.added.end, c.aim.ensures.end)))

pub choice-returns-in_err-expression-2 : goal.choice-returns-in_err-expression-2
unfolding names_e
choice-returns-in_err-expression-2 t c =
    let k = at_e c.node-node.ensures c.requires.kind c.requires.ready in
    let p = c.in_ok-plain_value.ensures.is in
    let q = part_e _ p.on (ap visible p.same) refl c.in_ok-expression.ensures in
    let r = part_e _ (q.on ∙ p.on) (ap visible (q.same ∙ p.same)) refl c.in_err-expression-2.ensures in
    refused_e c.from_residual-in_err-expression-2.result c.from_residual-in_err-expression-2.ensures.1 k.0 (second p.answer (second q.answer r.answer)) (r.same ∙ q.same ∙ p.same) (r.on ∙ q.on ∙ p.on)

pub choice-returns : goal.choice-returns
choice-returns t c =
    let k = at_e c.node-node.ensures c.requires.kind c.requires.ready in
    same_e k.0 (choice_done _ _ _ c.in_ok-plain_value.ensures c.reserve-past.ensures c.in_ok-expression.ensures c.reserve-end.ensures c.here.ensures c.aim.ensures c.in_ok-expression-2.ensures c.here-2.ensures c.aim-2.ensures)

pub expression-emit-requires : goal.expression-emit-requires
expression-emit-requires t c = omega (arith, c.requires.room, some_e (tree_e (nodes c.args.self.now) c.args.n))

pub expression-emit-requires-in-Truth : goal.expression-emit-requires-in-Truth
expression-emit-requires-in-Truth t c = omega (arith, c.requires.room, some_e (tree_e (nodes c.args.self.now) c.args.n))

pub expression-emit-requires-in-Read : goal.expression-emit-requires-in-Read
expression-emit-requires-in-Read t c = omega (arith, c.requires.room, some_e (tree_e (nodes c.args.self.now) c.args.n))

pub expression-emit-requires-in-Name : goal.expression-emit-requires-in-Name
expression-emit-requires-in-Name t c = omega (arith, c.requires.room, some_e (tree_e (nodes c.args.self.now) c.args.n))

pub expression-returns-in-Number : goal.expression-returns-in-Number
expression-returns-in-Number t c =
    let k = at_e c.node-node.ensures (sym c.kind.ensures ∙ ap kind_number c.in-Number.is) c.requires in
    let f : SFits w32 c.number_in.result = search rules in
    same_e k.0 (number_done (to_z-of_z w32 c.number_in.result f ∙ c.number_in.ensures) c.emit.ensures)

pub expression-returns-in-Truth : goal.expression-returns-in-Truth
unfolding names_e
expression-returns-in-Truth t c =
    let k = at_e c.node-node.ensures (sym c.kind.ensures ∙ ap kind_number c.in-Truth.is) c.requires in
    same_e k.0 (record { is = record { answer = refl; wrote = c.emit-in-Truth.ensures; same = refl; on = refl } })

pub expression-returns-in-Read : goal.expression-returns-in-Read
unfolding names_e
expression-returns-in-Read t c =
    let k = at_e c.node-node.ensures (sym c.kind.ensures ∙ ap kind_number c.in-Read.is) c.requires in
    same_e k.0 (record { is = record { answer = refl; wrote = c.emit-in-Read.ensures; same = refl; on = refl } })

pub expression-returns-in_err-newer-in-Name : goal.expression-returns-in_err-newer-in-Name
unfolding names_e
expression-returns-in_err-newer-in-Name t c =
    let k = at_e c.node-node.ensures (sym c.kind.ensures ∙ ap kind_number c.in-Name.is) c.requires in
    refused_e c.from_residual.result c.from_residual.ensures.1 k.0 (sym c.in_err-newer-in-Name.ensures) refl refl

pub expression-returns-in_ok-newer-in-Name : goal.expression-returns-in_ok-newer-in-Name
expression-returns-in_ok-newer-in-Name t c =
    let k = at_e c.node-node.ensures (sym c.kind.ensures ∙ ap kind_number c.in-Name.is) c.requires in
    same_e k.0 (name_done _ c.in_ok-newer-in-Name.ensures c.emit-in-Name.ensures)

pub expression-plain_value-requires : goal.expression-plain_value-requires
expression-plain_value-requires t c =
    let k = at_e c.node-node.ensures (sym c.kind.ensures ∙ ap kind_number c.in-Operation.is) c.requires in
    (omega (arith, k.1.0.0), ready_e c.args.self.now refl c.requires.here k.1.0 (omega (arith, c.requires.room, ap size_e k.0)))

pub expression-returns-in_err-plain_value-in-Operation : goal.expression-returns-in_err-plain_value-in-Operation
unfolding names_e
expression-returns-in_err-plain_value-in-Operation t c =
    let k = at_e c.node-node.ensures (sym c.kind.ensures ∙ ap kind_number c.in-Operation.is) c.requires in
    let p = c.in_err-plain_value-in-Operation.ensures.is in
    refused_e c.from_residual-in_err-plain_value-in-Operation.result c.from_residual-in_err-plain_value-in-Operation.ensures.1 k.0 (first _ p.answer) p.same p.on

pub expression-plain_value-requires-in-Operation : goal.expression-plain_value-requires-in-Operation
expression-plain_value-requires-in-Operation t c =
    let k = at_e c.node-node.ensures (sym c.kind.ensures ∙ ap kind_number c.in-Operation.is) c.requires in
    let p = c.in_ok-plain_value-in-Operation.ensures in
    (omega (arith, k.1.1.0), ready_e c.args.self.now p.is.on c.requires.here k.1.1 (omega (arith, c.requires.room, ap size_e k.0, end_plain p)))

pub expression-returns-in_err-plain_value-in-Operation-2 : goal.expression-returns-in_err-plain_value-in-Operation-2
unfolding names_e
expression-returns-in_err-plain_value-in-Operation-2 t c =
    let k = at_e c.node-node.ensures (sym c.kind.ensures ∙ ap kind_number c.in-Operation.is) c.requires in
    let p = c.in_ok-plain_value-in-Operation.ensures.is in
    let q = part_plain _ p.on (ap visible p.same) refl c.in_err-plain_value-in-Operation-2.ensures in
    refused_e c.from_residual-in_err-plain_value-in-Operation-2.result c.from_residual-in_err-plain_value-in-Operation-2.ensures.1 k.0 (second p.answer q.answer) (q.same ∙ p.same) (q.on ∙ p.on)

pub expression-emit-requires-in-Operation : goal.expression-emit-requires-in-Operation
expression-emit-requires-in-Operation t c =
    let k = at_e c.node-node.ensures (sym c.kind.ensures ∙ ap kind_number c.in-Operation.is) c.requires in
    let p = c.in_ok-plain_value-in-Operation.ensures in
    let q = c.in_ok-plain_value-in-Operation-2.ensures in
    omega (arith, c.requires.room, ap size_e k.0, end_plain p, end_plain q, ap (λ ns. size_e (tree_e ns c.node-node.result.b)) p.is.on)

pub expression-returns-in_ok-plain_value-in-Operation-2 : goal.expression-returns-in_ok-plain_value-in-Operation-2
expression-returns-in_ok-plain_value-in-Operation-2 t c =
    let k = at_e c.node-node.ensures (sym c.kind.ensures ∙ ap kind_number c.in-Operation.is) c.requires in
    same_e k.0 (operation_done _ _ c.operation_in.ensures c.in_ok-plain_value-in-Operation.ensures c.in_ok-plain_value-in-Operation-2.ensures c.emit-in-Operation.ensures)

pub expression-call-requires : goal.expression-call-requires
expression-call-requires t c =
    let k = at_e refl (sym c.kind.ensures ∙ ap kind_number c.in-FunctionCall.is) c.requires in
    (omega arith, record { here = c.requires.here; argument = k.1; room = omega (arith, c.requires.room, ap size_e k.0) })

pub expression-returns-in-FunctionCall : goal.expression-returns-in-FunctionCall
unfolding names_e
expression-returns-in-FunctionCall t c =
    let k = at_e refl (sym c.kind.ensures ∙ ap kind_number c.in-FunctionCall.is) c.requires in
    same_e k.0 (record { is = c.call.ensures.is })
