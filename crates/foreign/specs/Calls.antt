-- What each call answers, and what the caller's memory holds after it.
use Rattle.std.specs.Prelude.{◌≡◌, ℕ, ◌+◌, List, [], length, Some, None, Ok, Err, Result, nat_le}
use Rattle.std.specs.Result.{result_and}
use Rattle.vocabulary.specs.declared.refusal.Cause.TheVariants.{Fuel}
use Rattle.vocabulary.specs.declared.refusal.Refusal.{Refusal}
use Rattle.vocabulary.specs.declared.item.Item.{Item}
use Rattle.vocabulary.specs.declared.value.Plain.{Plain}
use Rattle.vocabulary.specs.Refusals.{Verdict, unless}
use Rattle.vocabulary.specs.World.{Rules, rules}
use Rattle.ports.specs.Kept.{overlay}
use Rattle.language.specs.Reading.{tree_of}
use Rattle.language.specs.Table.{nodes_of}
use Rattle.language.specs.Translation.{program}
use Rattle.language.specs.Tree.{Command}
use Rattle.language.specs.Verdicts.{table_verdict}
use Rattle.machine.specs.Machine.{iterate, taken, start}
use Rattle.machine.specs.State.{Ports, ports, State, sides}
use Rattle.machine.specs.State.State.{running, halted, broken}
use Rattle.sheet.specs.Faithful.{program_of}
use Rattle.sheet.specs.Writing.{archive_answer, archive_memory, decided}
use Rattle.sequencer.specs.declared.report.Report.{Report}
use Rattle.sequencer.specs.Calls.{state_of}
use Rattle.sequencer.specs.Model.{Model, code_of}
use Rattle.session.specs.History.{Take}
use Rattle.session.specs.Law.{world_of, ports_of, Law}
use Rattle.foreign.specs.declared.answers.Outcome.{Outcome}
use Rattle.foreign.specs.Answers.{outcome_of}

-- writing the sheet of a table: the verdict on the table, then what archiving its program answers
abbrev pub sheet_answer : List ℕ → List ℕ → Result ℕ Refusal
sheet_answer table memory = decided (table_verdict table) (archive_answer (Some (program_of table)) memory) Err

-- the memory after that: the sheet where it was written, and else nothing new
abbrev pub sheet_memory : List ℕ → List ℕ → List ℕ
sheet_memory table memory = decided (table_verdict table) (archive_memory (Some (program_of table)) memory) (λ e. memory)

-- fuel granted in any number of runs: the sequencer is where so many steps lead, and has counted those carried out
pub record Granted (R : Rules) (fuel : ℕ) (before after : Model) (from to : Ports) : Type 0 where
  pub program : after.program ≡ before.program
  pub moved : state_of after to ≡ iterate R (code_of before.program) fuel (state_of before from)
  pub steps : after.steps ≡ before.steps + taken R (code_of before.program) fuel (state_of before from)

-- the tree of a table
abbrev pub tree_in : List ℕ → Command
tree_in table = tree_of (nodes_of table)

-- a table that is to be run for so many steps: its own faults, then the fuel
abbrev pub perform_verdict : List ℕ → ℕ → Verdict
perform_verdict table fuel = result_and (table_verdict table) (unless (nat_le fuel 1000000000) Fuel 0)

-- what is reported of a machine in this state after so many steps, with feed and strip; broken never comes
abbrev pub Tells : State → ℕ → Ports → Report → Type 0
Tells (running c) steps to report = (report ≡ record { stop = None; steps = steps }) × (to ≡ sides c)
Tells (halted e n w) steps to report = (report ≡ record { stop = Some (record { end = e; node = n }); steps = steps }) × (to ≡ ports_of w)
Tells broken steps to report = ⊥

-- a take of a tree with so much fuel, from feed and strip as they were to feed and strip as they are, and what is reported
abbrev pub take_of : Command → ℕ → Ports → Ports → Report → Take
take_of tree fuel from to report = record { tree = tree; start = from; granted = fuel; told = report; stop = to }

pub record Performed (R : Rules) (tree : Command) (fuel : ℕ) (from to : Ports) (report : Report) : Type 0 where
  -- it is where so many steps of the tree's code lead
  pub exact : Tells (iterate R (program tree) fuel (start (world_of from))) (taken R (program tree) fuel (start (world_of from))) to report
  -- and what the tree means
  pub lawful : Law R (take_of tree fuel from to report)

-- a table carried out between feed and strip; refused, nothing changes
abbrev pub Performs : Rules → List ℕ → ℕ → Ports → Ports → Result Report Refusal → Type 0
Performs R table fuel from to (Ok report) = (perform_verdict table fuel ≡ Ok tt) × Performed R (tree_in table) fuel from to report
Performs R table fuel from to (Err e) = (perform_verdict table fuel ≡ Err e) × (to ≡ from)

-- a run over the caller's items and memory, where values have these prices and are written so: the outcome, and the memory, which
-- is what the values put are written as, and beyond that as it was
pub record Runs {X : Type 0} (price : Plain → ℕ) (written : List Plain → List X) (table : List ℕ) (fuel : ℕ) (items : List Item) (before after : List X) (outcome : Outcome) : Type 0 where
  pub to : Ports
  pub answer : Result Report Refusal
  pub performs : Performs (rules price) table fuel (ports items [] (length before)) to answer
  pub outcome_is : outcome ≡ outcome_of answer (length to.feed) (length (written to.strip))
  pub memory : after ≡ overlay (written to.strip) before
