use Rattle.std.proofs.Common.{◌≡◌, ℕ, List, Option, string_bytes, sym, subst}
use Rattle.std.specs.Prelude.{IfSome}
use Rattle.std.proofs.lemmas.Result.{IfOk-weaker}
use Rattle.planned.specs.Sessions.{Printed}
use Rattle.planned.proofs.whole.session_text.Goals as goal

pub returns : goal.returns
returns g c = λ piece h.
    let p = c.in_ok-page.ensures piece h in
    IfOk-weaker c.format.result _ _
    (λ text q. subst (λ (t : List ℕ). Printed piece c.args.session.now t) (sym (subst (λ (o : Option (List ℕ)). IfSome o (λ bs. string_bytes text ≡ bs)) p.1 q)) p.2)
    c.format.ensures.ok
