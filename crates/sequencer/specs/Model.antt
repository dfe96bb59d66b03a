-- What a sequencer means: its program, and the take of it.
use Rattle.std.specs.Prelude.{ℕ, List, [], Some, None, Option}
use Rattle.std.specs.Option.{option_map}
use Rattle.vocabulary.specs.declared.code.Word.{Word}
use Rattle.vocabulary.specs.declared.node.Node.{Node}
use Rattle.machine.specs.declared.tables.Status.{Status}
use Rattle.machine.specs.declared.tables.Status.TheVariants.{Running}
use Rattle.machine.specs.Machine.{blank}
use Rattle.machine.specs.Seen.{seen}
use Rattle.machine.specs.State.{Core}
use Rattle.sheet.specs.Layout.{Program}
use Rattle.sequencer.specs.declared.program.Program.{Program as Accepted}
use Rattle.sequencer.specs.declared.state.Sequencer.{Sequencer}
use Rattle.sequencer.specs.declared.take.Take.{Take}

-- the program, if there is one; how the machine stands, and its tables; the fuel granted to the take, and its steps
pub record Model : Type 0 where
  pub program : Option Program
  pub status : Status
  pub core : Core
  pub granted : ℕ
  pub steps : ℕ

-- the nodes and the code of a program
abbrev pub held : Accepted → Program
held p = record { nodes = p.nodes; code = p.code }

-- a program, if there is one, and a take
abbrev pub taking : Option Program → Take → Model
taking p t = record { program = p; status = t.status; core = seen t.machine; granted = t.granted; steps = t.steps }

abbrev pub model : Sequencer → Model
model s = taking (option_map held s.program) s.take

-- a new sequencer
abbrev pub fresh : Model
fresh = record { program = None; status = Running; core = blank; granted = 0; steps = 0 }

-- the beginning of a take of a program
abbrev pub begun : Program → Model
begun p = record { program = Some p; status = Running; core = blank; granted = 0; steps = 0 }

-- the same program, at the beginning of a take
abbrev pub rewound : Model → Model
rewound m = record { program = m.program; status = Running; core = blank; granted = 0; steps = 0 }

-- the nodes and the code of the program, if there is one
abbrev pub nodes_in : Option Program → List Node
nodes_in None = []
nodes_in (Some p) = p.nodes

abbrev pub code_of : Option Program → List Word
code_of None = []
code_of (Some p) = p.code
