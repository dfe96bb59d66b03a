use Rattle.std.proofs.Common.{◌≡◌, Some, List, drop, subst, sym, ap, ◌∙◌}
use Rattle.std.specs.List.{list_all}
use Rattle.language.specs.declared.kind.Field.{Field}
use Rattle.language.specs.Fields.{fields_of, admits, named}
use Rattle.language.proofs.Kinded.{children_none, children_some, formed_none, formed_some}
use Rattle.language.proofs.check.fields_of.Goals as goal

pub returns-in_default-clause-formed : goal.returns-in_default-clause-formed
returns-in_default-clause-formed c = sym (formed_none c.args.node c.in_default.ensures)

pub returns-in_default-clause-children : goal.returns-in_default-clause-children
returns-in_default-clause-children c = sym (children_none c.args.node c.in_default.ensures)

pub returns-clause-formed : goal.returns-clause-formed
returns-clause-formed c =
    let e : fields_of c.args.node.kind ≡ Some c.fields.result = subst (λ n. fields_of n ≡ Some c.fields.result) c.in-Ok.ensures c.fields.ensures in
    ap (list_all (λ (f : Field). admits f.rule f.value)) c.of.ensures ∙ sym (formed_some c.args.node c.fields.result e)

pub returns-clause-children : goal.returns-clause-children
returns-clause-children c =
    let e : fields_of c.args.node.kind ≡ Some c.fields.result = subst (λ n. fields_of n ≡ Some c.fields.result) c.in-Ok.ensures c.fields.ensures in
    ap (λ (fs : List Field). named (drop 1 fs)) c.of.ensures ∙ sym (children_some c.args.node c.fields.result e)
