use Rattle.std.proofs.Common.{◌≡◌, ◌+◌, ◌*◌, ◌%◌, is_some, Ok, ap, ◌∙◌, arith}
use Rattle.vocabulary.specs.declared.refusal.Cause.TheVariants.{NoProgram}
use Rattle.vocabulary.specs.Refusals.{unless}
use Rattle.vocabulary.specs.World.{rules}
use Rattle.machine.specs.Seen.{between}
use Rattle.sequencer.specs.Calls.{program_verdict}
use Rattle.sequencer.specs.Model.{model}
use Rattle.foreign.proofs.Granting.{granted_none, granted_run, granted-refused, refused-ended, counted}
use Rattle.foreign.proofs.perform.grant_all.Goals as goal

pub loop-run-init : goal.loop-run-init
loop-run-init g c = (granted_none _ (0 * 1000000) _ _ (omega arith), omega arith, g.S.Strip.stays _)

pub loop-run-preserved : goal.loop-run-preserved
loop-run-preserved g c =
    let l = c.loop-run in
    let i = l.invariant in
    let count = i.1 in
    let most = c.requires.enough in
    let f = between g.F.Feed g.S.Strip in
    let r = rules g.S.Strip.price in
    let more = counted r 1000000 l.sequencer c.run.new.self (f l.feed l.strip) (f c.run.new.feed c.run.new.strip) c.run.result c.run.ensures.answer in (
      granted_run r (l._run * 1000000) 1000000 (model c.args.sequencer.now) l.sequencer c.run.new.self (f c.args.feed.now c.args.strip.now) (f l.feed l.strip) (f c.run.new.feed c.run.new.strip) c.run.result
          i.0 c.requires.program (omega arith) (omega arith) ((l._run + 1) * 1000000) c.run.ensures.answer (omega arith),
      omega arith,
      g.S.Strip.goes _ _ _ i.2 c.run.ensures.kept,
    )

-- a run that is refused: the take has ended, and is where all of the fuel would leave it
pub returns-in-Err : goal.returns-in-Err
returns-in-Err g c =
    let l = c.loop-run in
    let i = l.invariant in
    let count = i.1 in
    let most = c.requires.enough in
    let there : program_verdict (model l.sequencer) ≡ Ok tt = ap (λ p. unless (is_some p) NoProgram 0) i.0.program ∙ c.requires.program in
    let refusal = c.in-Err.ensures.answer in
    let over = refused-ended (model l.sequencer) 1000000 _ there (omega arith) (omega arith) refusal.0 in
    record {
      granted = granted-refused _ (l._run * 1000000) c.args.fuel _ l.sequencer c.run.new.self _ _ _ i.0 over (omega arith) refusal.1 refusal.2;
      kept = g.S.Strip.goes _ _ _ i.2 c.run.ensures.kept;
    }

pub returns : goal.returns
returns g c =
    let l = c.loop-run in
    let i = l.invariant in
    let count = i.1 in
    let most = c.requires.enough in
    let f = between g.F.Feed g.S.Strip in
    let r = rules g.S.Strip.price in
    record {
      granted =
          granted_run r (l._run * 1000000) (c.args.fuel % 1000000) (model c.args.sequencer.now) l.sequencer c.run-2.new.self (f c.args.feed.now c.args.strip.now) (f l.feed l.strip) (f c.run-2.new.feed c.run-2.new.strip) c.run-2.result
          i.0 c.requires.program (omega arith) (omega arith) c.args.fuel c.run-2.ensures.answer (omega arith);
      kept = g.S.Strip.goes _ _ _ i.2 c.run-2.ensures.kept;
    }
