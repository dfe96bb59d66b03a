use Rattle.std.proofs.Common.{◌≡◌, ℕ, Ok, Err, Result, sym, refl, ap, ◌∙◌}
use Rattle.std.proofs.lemmas.Bool.{ne_eqb}
use Rattle.std.specs.Result.{result_unwrap_or}
use Rattle.vocabulary.specs.declared.code.Operation.{Operation}
use Rattle.vocabulary.specs.declared.code.Operation.TheVariants.{Sum, Difference, Product, Quotient, Equal, Less}
use Rattle.vocabulary.specs.declared.code.UnknownOperator.{UnknownOperator}
use Rattle.vocabulary.specs.Codes.{OperatorIn, operator_of}
use Rattle.language.specs.Reading.{operation_of}
use Rattle.language.proofs.form.operation_in.Goals as goal

back : (o : Operation) → operation_of (operator_of o) ≡ o
back Sum = refl
back Difference = refl
back Product = refl
back Quotient = refl
back Equal = refl
back Less = refl

read : (n : ℕ) (r : Result Operation UnknownOperator) → OperatorIn n r → result_unwrap_or r Less ≡ operation_of n
read n (Ok o) e = sym (back o) ∙ ap operation_of e
read n (Err u) none =
    let test = λ (o : Operation). ne_eqb n (operator_of o) (λ e. none o (sym e)) in
    rw (test Sum, test Difference, test Product, test Quotient, test Equal)

pub returns : goal.returns
returns c = c.unwrap_or.ensures ∙ read c.args.node.tag c.try_from.result c.try_from.ensures
