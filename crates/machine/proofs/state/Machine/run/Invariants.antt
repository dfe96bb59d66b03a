use Rattle.vocabulary.specs.World.{rules}
use Rattle.machine.specs.declared.tables.Status.TheVariants.{Running}
use Rattle.machine.specs.Seen.{state_of}
use Rattle.machine.proofs.Running.{Left}
use Rattle.machine.proofs.state.Machine.run.Given as goal

-- what is left of the fuel, from here, comes to what all of it comes to from the start
abbrev pub invariant-loop-done : goal.invariant-loop-done
invariant-loop-done g l =
    let f = g.F.Feed in
    let s = g.S.Strip in
    Left (rules s.price) l.code l.fuel l.done
    (state_of f s Running l.initial.self l.initial.feed l.initial.strip)
    (state_of f s Running l.self l.feed l.strip)
    × s.keeps l.initial.strip l.strip
