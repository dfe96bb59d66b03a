use Rattle.std.proofs.Common.{sym, subst, arith}
use Rattle.vocabulary.specs.World.{rules}
use Rattle.agreement.proofs.Whole.{agreement}
use Rattle.machine.specs.Seen.{between}
use Rattle.sequencer.specs.Model.{model}
use Rattle.foreign.specs.Calls.{Granted}
use Rattle.foreign.proofs.Performing.{performs}
use Rattle.foreign.proofs.perform.perform.Goals as goal

pub returns : goal.returns
returns g c =
    let loaded = c.in_ok-load.ensures in
    let from = between g.F.Feed g.S.Strip c.args.feed.now c.args.strip.now in
    let to = between g.F.Feed g.S.Strip c.grant_all.new.feed c.grant_all.new.strip in
    let granted =
    subst (λ m. Granted (rules g.S.Strip.price) c.args.fuel m (model c.grant_all.new.sequencer) from to) loaded.1
    c.grant_all.ensures.granted in
    record {
      performs = performs _ (omega arith) agreement _ (sym loaded.0) _ _ _ _ granted _ (omega (arith, c.if-fuel-gt-TAKE_FUEL.false)) c.report.ensures;
      kept = c.grant_all.ensures.kept;
    }
