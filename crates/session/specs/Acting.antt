-- What one call answers and what it leaves, by the definitions that the contracts of the calls cite.
use Rattle.std.specs.Prelude.{◌≡◌, Ok, Err, Result}
use Rattle.vocabulary.specs.declared.refusal.Refusal.{Refusal}
use Rattle.vocabulary.specs.Refusals.{Verdict}
use Rattle.vocabulary.specs.World.{Rules}
use Rattle.language.specs.Verdicts.{table_verdict}
use Rattle.machine.specs.State.{Ports}
use Rattle.sheet.specs.Faithful.{program_of}
use Rattle.sheet.specs.Sheets.{open_verdict, table_part}
use Rattle.sequencer.specs.declared.report.Report.{Report as ReportType}
use Rattle.sequencer.specs.Model.{Model, begun, rewound}
use Rattle.sequencer.specs.Calls.{program_verdict, run_verdict, told, Stepped}
use Rattle.session.specs.declared.Call.{Call}
use Rattle.session.specs.declared.Call.TheVariants.{Load, Open, Rewind, Run, Report}
use Rattle.session.specs.declared.Answer.{Answer}
use Rattle.session.specs.declared.Answer.TheVariants.{Done, Told, Refused}

-- what a call finds, and what it leaves: the sequencer, and the feed and the strip
pub record Scene : Type 0 where
  pub sequencer : Model
  pub ports : Ports

abbrev pub scene : Model → Ports → Scene
scene m o = record { sequencer = m; ports = o }

-- what a call by itself gives, as an answer: done, or how the take stands
abbrev pub done_answer : Verdict → Answer
done_answer (Ok _) = Done
done_answer (Err e) = Refused e

abbrev pub told_answer : Result ReportType Refusal → Answer
told_answer (Ok r) = Told r
told_answer (Err e) = Refused e

-- refused, a call answers the refusal and changes nothing; accepted, it does this
abbrev pub Decided : Verdict → Scene → Answer → Scene → Type 0 → Type 0
Decided (Ok _) before answer after does = does
Decided (Err e) before answer after does = (answer ≡ Refused e) × (after ≡ before)

-- the sequencer is now this one; feed and strip go on as they are
abbrev pub Becomes : Model → Scene → Answer → Scene → Type 0
Becomes m before answer after = (answer ≡ Done) × (after ≡ scene m before.ports)

-- load and open replace the program and begin a take, rewind begins one of the same program, run makes the steps that the
-- fuel allows, report changes nothing; the last two answer how the take stands
abbrev pub Acted : Rules → Call → Scene → Answer → Scene → Type 0
Acted R (Load table) before answer after =
    Decided (table_verdict table.now) before answer after (Becomes (begun (program_of table.now)) before answer after)
Acted R (Open sheet) before answer after =
    Decided (open_verdict sheet.now) before answer after (Becomes (begun (program_of (table_part sheet.now))) before answer after)
Acted R Rewind before answer after =
    Decided (program_verdict before.sequencer) before answer after (Becomes (rewound before.sequencer) before answer after)
Acted R (Run fuel) before answer after =
    Decided (run_verdict before.sequencer fuel) before answer after
    ((answer ≡ Told (told after.sequencer)) × Stepped R fuel before.sequencer after.sequencer before.ports after.ports)
Acted R Report before answer after =
    Decided (program_verdict before.sequencer) before answer after ((answer ≡ Told (told before.sequencer)) × (after ≡ before))
