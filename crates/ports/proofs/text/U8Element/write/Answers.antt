use Rattle.std.proofs.Common.{sym, subst, ap, ◌∙◌, w32, SFits, rules}
use Rattle.std.proofs.lemmas.Int.{to_z-of_z}
use Rattle.vocabulary.specs.declared.value.Plain.TheVariants.{Number}
use Rattle.ports.specs.Lines.{line_of}
use Rattle.ports.proofs.Lined.{line-wrote}
use Rattle.ports.proofs.Parsed.{Small}
use Rattle.ports.proofs.text.U8Element.write.Goals as goal

pub returns-in-Number : goal.returns-in-Number
returns-in-Number c =
    let z = c.in-Number.number in
    let f : SFits w32 z = search rules in
    let is = simp to_z-of_z at c.number_line.ensures in
    simp c.in-Number.is (line-wrote (Number z) _ c.args.free.now c.fill.new.free c.fill.result is f.sfits c.fill.ensures)

pub returns-in-Truth : goal.returns-in-Truth
returns-in-Truth c =
    let e = sym c.in-Truth.is in
    line-wrote c.args.value _ c.args.free.now c.fill-in-Truth.new.free c.fill-in-Truth.result (c.truth_line.ensures ∙ ap line_of e) (subst Small e tt) c.fill-in-Truth.ensures
