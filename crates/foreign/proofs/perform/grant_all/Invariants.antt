use Rattle.std.proofs.Common.{◌+◌, ◌*◌, ◌≤◌}
use Rattle.vocabulary.specs.World.{rules}
use Rattle.machine.specs.Seen.{between}
use Rattle.sequencer.specs.Model.{model}
use Rattle.foreign.specs.Calls.{Granted}
use Rattle.foreign.proofs.perform.grant_all.Given as goal

-- so many runs were granted
abbrev pub invariant-loop-run : goal.invariant-loop-run
invariant-loop-run g l =
    let f = g.F.Feed in
    let s = g.S.Strip in
    Granted (rules s.price) (l._run * 1000000) (model l.initial.sequencer) (model l.sequencer)
    (between f s l.initial.feed l.initial.strip) (between f s l.feed l.strip)
    × ((model l.sequencer).granted ≤ (model l.initial.sequencer).granted + l._run * 1000000)
    × s.keeps l.initial.strip l.strip
