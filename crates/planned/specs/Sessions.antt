-- Sessions as they are planned, and what they print.
use Rattle.std.specs.Prelude.{◌≡◌, ◌⊎◌, ℕ, true, false, List, ◌++◌, map, vec_items}
use Rattle.std.specs.List.{flat_map}
use Rattle.vocabulary.specs.declared.refusal.Cause.TheVariants.{RampRange}
use Rattle.vocabulary.specs.Refusals.{refusal}
use Rattle.machine.specs.State.{Ports}
use Rattle.notation.specs.Lines.{Spoken, spoken_call}
use Rattle.notation.specs.Lines.Spoken.{loads, opens, rewinds, runs, reports}
use Rattle.session.specs.declared.Answer.{Answer}
use Rattle.session.specs.declared.Answer.TheVariants.{Refused}
use Rattle.session.specs.declared.Call.{Call}
use Rattle.session.specs.declared.Call.TheVariants.{Load, Open, Rewind, Run, Report}
use Rattle.session.specs.Law.{Session as LawfulSession}
use Rattle.planned.specs.Answers.{answer_line}
use Rattle.planned.specs.Carried.{feed_fits, left_ports, planned_ports, planned_rules}
use Rattle.planned.specs.Leaves.{left_text}
use Rattle.planned.specs.declared.carry.Left.{Left}
use Rattle.planned.specs.declared.plan.Session.{Session}

-- what a call says
abbrev pub call_said : Call → Spoken
call_said (Load table) = loads table.now
call_said (Open sheet) = opens sheet.now
call_said Rewind = rewinds
call_said (Run fuel) = runs fuel
call_said Report = reports

-- the answers of the calls that are planned, which keep the law of takes between feed and strip before and after them
abbrev pub Answers : Session → List Answer → Ports → Ports → Type 0
Answers s answers before after =
    (calls : List Call) × (map call_said calls ≡ map spoken_call (vec_items s.calls)) × LawfulSession (planned_rules s.strip) calls answers before after

-- what a session prints: each answer as `piece` has it, then what the session leaves; or the refusal of its ramp alone
abbrev pub Printed : (Answer → List ℕ) → Session → List ℕ → Type 0
Printed piece s text =
    ((answers : List Answer) × (left : Left) × (feed_fits s.feed ≡ true) × Answers s answers (planned_ports s.feed s.strip) (left_ports left) × (text ≡ flat_map piece answers ++ left_text left))
    ⊎ ((feed_fits s.feed ≡ false) × (text ≡ answer_line (Refused (refusal RampRange 0))))
