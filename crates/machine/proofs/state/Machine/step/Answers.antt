use Rattle.std.proofs.Common.{Some, add-one, ◌∙◌, ap, sym}
use Rattle.vocabulary.proofs.Tabled.{found_some}
use Rattle.machine.specs.Seen.{seen}
use Rattle.machine.proofs.Turning.{step_stops}
use Rattle.machine.proofs.state.Machine.step.Goals as goal

pub returns-in-Err-clause-stepped : goal.returns-in-Err-clause-stepped
returns-in-Err-clause-stepped g c = rw c.at.ensures (step_stops _ c.args.code.now c.in-Some.word.now _ c.in-Err.stop (seen c.args.self.now) _ _ _ (found_some _ _ c.in-Some.word.now c.in-Some.ensures.lookup.3.0 ∙ ap Some (sym c.in-Some.ensures.lookup.1)) (add-one c.args.self.now.position) c.in-Err.ensures.comes)
