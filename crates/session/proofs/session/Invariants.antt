use Rattle.std.proofs.Common.{◌≡◌, ◌≤◌, length, take, vec_items, vec_len, vec_capacity}
use Rattle.vocabulary.specs.World.{rules}
use Rattle.machine.specs.Seen.{between}
use Rattle.sequencer.specs.Model.{model}
use Rattle.session.proofs.SoFar.{SoFar}
use Rattle.session.proofs.session.Given as goal

-- the calls so far have their answers, and there is room for the others
abbrev pub invariant-loop-call : goal.invariant-loop-call
invariant-loop-call g l =
    let f = g.F.Feed in
    let s = g.S.Strip in
    SoFar (rules s.price) (take l.call-index l.calls) (vec_items l.answers) (between f s l.initial.feed l.initial.strip)
    (model l.sequencer) (between f s l.feed l.strip)
    × (vec_len l.answers ≡ l.call-index)
    × (length l.calls ≤ vec_capacity l.answers)
    × s.keeps l.initial.strip l.strip
