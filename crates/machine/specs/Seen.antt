-- The machine of lists that the tables show, and how it stands after an instruction, a step or a run.
use Rattle.std.specs.Prelude.{◌≡◌, ℕ, [], ◌∷◌, length, reverse, Ok, Err, Result}
use Rattle.vocabulary.specs.World.{world}
use Rattle.ports.specs.declared.feed.Feed.{Ghosts as FeedMembers}
use Rattle.ports.specs.declared.strip.Strip.{Ghosts as StripMembers}
use Rattle.machine.specs.declared.state.Machine.{Machine}
use Rattle.machine.specs.declared.tables.Stop.{Stop}
use Rattle.machine.specs.declared.tables.Stop.TheVariants.{Ended, Stuck}
use Rattle.machine.specs.declared.tables.Status.{Status}
use Rattle.machine.specs.declared.tables.Status.TheVariants.{Running, Halted, Broken}
use Rattle.machine.specs.Links.{chain, chains, reach}
use Rattle.machine.specs.State.{Core, core, Turn, Ports, ports, State, joined}
use Rattle.machine.specs.State.Dump.{frame}
use Rattle.machine.specs.State.State.{running, halted, broken}
use Rattle.machine.specs.State.Turn.{goes, ends, stuck}

-- the machine's own part, read off its tables
abbrev pub seen : Machine → Core
seen m =
    let entries = reverse m.bindings.entries in
    core m.position (reverse m.values) (chain entries (reach m.bindings.env)) (length m.bindings.entries) (chains entries (reverse m.frames)) m.cells

-- what an instruction says: the machine goes on, or it stops
abbrev pub Said : Type 0
Said = Result (Unit {0}) Stop

-- what an instruction came to, by what it says and the machine after it
abbrev pub after : Said → Core → Turn
after (Ok _) k = goes k
after (Err (Ended e)) k = ends e k.cells
after (Err Stuck) k = stuck

-- environment and bindings in use taken off the dump, with the number that came with them
abbrev pub TakenBack : Core → Core → Result ℕ Stop → Type 0
TakenBack k l (Ok q) = (k.dump ≡ frame l.environment l.bindings q ∷ l.dump) × (l ≡ core k.position k.values l.environment l.bindings l.dump k.cells)
TakenBack k l (Err s) = (k.dump ≡ []) × (s ≡ Stuck)

-- the state, by how the machine stands
abbrev pub stands : Status → Core → Ports → State
stands Running k o = running (joined k o)
stands (Halted e n) k o = halted e n (world k.cells o.feed o.strip o.space)
stands Broken k o = broken

-- a feed and a strip, by what they mean
abbrev pub between : {F S : Type 0} → FeedMembers F → StripMembers S → F → S → Ports
between f s feed strip = ports (f.waiting feed) (s.held strip) (s.space strip)

-- the state of machine, feed and strip together
abbrev pub state_of : {F S : Type 0} → FeedMembers F → StripMembers S → Status → Machine → F → S → State
state_of f s status m feed strip = stands status (seen m) (between f s feed strip)

-- how the machine stands after a stop at a node
abbrev pub status_of : Stop → ℕ → Status
status_of (Ended e) node = Halted e node
status_of Stuck node = Broken
