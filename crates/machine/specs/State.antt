-- The states of the machine, over lists, and what an instruction can come to.
use Rattle.std.specs.Prelude.{ℕ, suc, List}
use Rattle.vocabulary.specs.declared.end.End.{End}
use Rattle.vocabulary.specs.declared.item.Item.{Item}
use Rattle.vocabulary.specs.declared.value.Plain.{Plain}
use Rattle.vocabulary.specs.declared.value.Value.{Value}
use Rattle.vocabulary.specs.World.{World, world}
use Rattle.machine.specs.declared.tables.Bound.{Bound}

-- what ENTER or CALL puts on the dump: the environment, the bindings in use, and the cells in use (ENTER) or the next
-- position (CALL)
pub data Dump : Type 0 where
  frame : List Bound → ℕ → ℕ → Dump

-- the machine and the world that it acts on: the position in the code, the values that wait, the environment (the newest
-- binding first), the bindings in use, the dump, and the world
pub record Config : Type 0 where
  pub position : ℕ
  pub values : List Value
  pub environment : List Bound
  pub bindings : ℕ
  pub dump : List Dump
  pub world : World

abbrev pub config : ℕ → List Value → List Bound → ℕ → List Dump → World → Config
config p vs m n ds w = record { position = p; values = vs; environment = m; bindings = n; dump = ds; world = w }

-- running; halted, with an end at a node; or broken: stuck, or a table beyond its maximum
pub data State : Type 0 where
  running : Config → State
  halted : End → ℕ → World → State
  broken : State

-- the machine's own part of a configuration
pub record Core : Type 0 where
  pub position : ℕ
  pub values : List Value
  pub environment : List Bound
  pub bindings : ℕ
  pub dump : List Dump
  pub cells : List Plain

abbrev pub core : ℕ → List Value → List Bound → ℕ → List Dump → List Plain → Core
core p vs m n ds cs = record { position = p; values = vs; environment = m; bindings = n; dump = ds; cells = cs }

-- the part of a configuration that is feed and strip
pub record Ports : Type 0 where
  pub feed : List Item
  pub strip : List Plain
  pub space : ℕ

abbrev pub ports : List Item → List Plain → ℕ → Ports
ports f s r = record { feed = f; strip = s; space = r }

-- both parts of a configuration, the position already the next; and a configuration from its parts
abbrev pub ahead : Config → Core
ahead c = core (suc c.position) c.values c.environment c.bindings c.dump c.world.cells

abbrev pub sides : Config → Ports
sides c = ports c.world.feed c.world.strip c.world.space

abbrev pub joined : Core → Ports → Config
joined k o = config k.position k.values k.environment k.bindings k.dump (world k.cells o.feed o.strip o.space)

-- what an instruction comes to: the machine goes on, has ended, or is stuck
pub data Turn : Type 0 where
  goes : Core → Turn
  ends : End → List Plain → Turn
  stuck : Turn

-- the same with the feed after it, with the strip after it, or with both
pub data Fed : Type 0 where
  fed : Turn → List Item → Fed

pub data Spent : Type 0 where
  spent : Turn → List Plain → ℕ → Spent

pub data Moved : Type 0 where
  moved : Turn → Ports → Moved

-- feed and strip after an instruction that touches one of them
abbrev pub fed_in : Fed → Ports → Moved
fed_in (fed t f) o = moved t (ports f o.strip o.space)

abbrev pub spent_in : Spent → Ports → Moved
spent_in (spent t h n) o = moved t (ports o.feed h n)

-- the state after an instruction of node nd
abbrev pub noted : ℕ → Moved → State
noted nd (moved (goes k) o) = running (joined k o)
noted nd (moved (ends e cs) o) = halted e nd (world cs o.feed o.strip o.space)
noted nd (moved stuck o) = broken
