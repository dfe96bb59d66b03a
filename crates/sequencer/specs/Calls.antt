-- What the calls answer, and the sequencer after them.
use Rattle.std.specs.Prelude.{◌≡◌, ℕ, ◌+◌, Bool, true, false, ◌&&◌, List, is_some, Some, None, Ok, Err, Option, Result, nat_le}
use Rattle.std.specs.Borrow.{Bor}
use Rattle.std.specs.Result.{result_and}
use Rattle.vocabulary.specs.declared.refusal.Cause.TheVariants.{NoProgram, TakeEnded, Fuel}
use Rattle.vocabulary.specs.declared.refusal.Refusal.{Refusal}
use Rattle.vocabulary.specs.Refusals.{Verdict, refusal, unless}
use Rattle.vocabulary.specs.World.{Rules}
use Rattle.machine.specs.declared.tables.Status.{Status}
use Rattle.machine.specs.declared.tables.Status.TheVariants.{Running, Halted, Broken}
use Rattle.machine.specs.Machine.{iterate, taken}
use Rattle.machine.specs.Seen.{stands}
use Rattle.machine.specs.State.{Ports, State}
use Rattle.sequencer.specs.declared.program.Program.{Program as Accepted}
use Rattle.sequencer.specs.declared.report.Report.{Report}
use Rattle.sequencer.specs.declared.state.Sequencer.{Sequencer}
use Rattle.language.specs.Verdicts.{table_verdict}
use Rattle.sheet.specs.Faithful.{program_of}
use Rattle.sheet.specs.Sheets.{open_verdict, table_part}
use Rattle.sequencer.specs.Model.{Model, model, begun, rewound, code_of}
use Rattle.sequencer.specs.Reports.{report_of}

-- accepted, the sequencer is now this one, at the beginning of a take; refused, nothing changes
abbrev pub Begins : Model → Sequencer → Sequencer → Verdict → Type 0
Begins m before after (Ok _) = model after ≡ m
Begins m before after (Err e) = after ≡ before

-- loading a table, and opening a sheet: the program is replaced
abbrev pub Loaded : List ℕ → Sequencer → Sequencer → Verdict → Type 0
Loaded table before after r = (r ≡ table_verdict table) × Begins (begun (program_of table)) before after r

abbrev pub Opened : List ℕ → Sequencer → Sequencer → Verdict → Type 0
Opened sheet before after r = (r ≡ open_verdict sheet) × Begins (begun (program_of (table_part sheet))) before after r

-- whether there is a program
abbrev pub program_verdict : Model → Verdict
program_verdict m = unless (is_some m.program) NoProgram 0

-- the program that is there, or the refusal
abbrev pub Holds : Option Accepted → Result (Bor Accepted) Refusal → Type 0
Holds o (Ok p) = o ≡ Some p.now
Holds o (Err e) = (o ≡ None) × (e ≡ refusal NoProgram 0)

-- rewinding: the program stays
abbrev pub Rewound : Sequencer → Sequencer → Verdict → Type 0
Rewound before after r = (r ≡ program_verdict (model before)) × Begins (rewound (model before)) before after r

abbrev pub goes_on : Status → Bool
goes_on Running = true
goes_on (Halted e n) = false
goes_on Broken = false

-- a grant: at most a million at once, and a billion to a take
abbrev pub grants : ℕ → ℕ → Bool
grants granted fuel = nat_le fuel 1000000 && nat_le (granted + fuel) 1000000000

-- a run of a take: one that has ended, then too much fuel
abbrev pub grant_verdict : Status → ℕ → ℕ → Verdict
grant_verdict status granted fuel = result_and (unless (goes_on status) TakeEnded 0) (unless (grants granted fuel) Fuel 0)

-- a run: no program, then a take that has ended, then too much fuel
abbrev pub run_verdict : Model → ℕ → Verdict
run_verdict m fuel = result_and (program_verdict m) (grant_verdict m.status m.granted fuel)

abbrev pub told : Model → Report
told m = report_of m.status m.steps

-- an accepted report, or its refusal
abbrev pub report_answer : Model → Result Report Refusal
report_answer m = result_and (program_verdict m) (Ok (told m))

-- the machine with feed and strip
abbrev pub state_of : Model → Ports → State
state_of m o = stands m.status m.core o

-- a run of some fuel, by these rules: the machine makes as many steps, unless it ends before; steps and grants are counted
pub record Stepped (R : Rules) (fuel : ℕ) (before after : Model) (from to : Ports) : Type 0 where
  pub program : after.program ≡ before.program
  pub moved : state_of after to ≡ iterate R (code_of before.program) fuel (state_of before from)
  pub steps : after.steps ≡ before.steps + taken R (code_of before.program) fuel (state_of before from)
  pub granted : after.granted ≡ before.granted + fuel

-- an accepted run answers the report; a refused one changes nothing
abbrev pub RunAnswer : Rules → ℕ → Sequencer → Sequencer → Ports → Ports → Result Report Refusal → Type 0
RunAnswer R fuel before after from to (Ok r) = (run_verdict (model before) fuel ≡ Ok tt) × Stepped R fuel (model before) (model after) from to × (r ≡ told (model after))
RunAnswer R fuel before after from to (Err e) = (run_verdict (model before) fuel ≡ Err e) × (after ≡ before) × (to ≡ from)
