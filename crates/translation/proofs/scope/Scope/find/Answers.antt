use Rattle.std.proofs.Common.{ap, ◌∙◌}
use Rattle.language.specs.Scope.{place_of}
use Rattle.translation.proofs.Finding.{unnamed, newest_at, newest_first}
use Rattle.translation.proofs.scope.Scope.find.Goals as goal

pub returns-in_err-at : goal.returns-in_err-at
returns-in_err-at c = c.from_residual.ensures ∙ unnamed _ _ c.in_err-at.ensures ∙ ap (λ es. place_of es c.args.name) (newest_first c.args.self.now c.as_slice-entries.ensures.value)

pub returns : goal.returns
returns c = newest_at _ _ _ _ c.in_ok-at.ensures ∙ ap (λ es. place_of es c.args.name) (newest_first c.args.self.now c.as_slice-entries.ensures.value)
