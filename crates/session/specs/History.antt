-- The history of a session, and its takes.
use Rattle.std.specs.Prelude.{◌≡◌, ℕ, ◌+◌, List, [], ◌∷◌, ◌++◌, Some, None, Option}
use Rattle.std.specs.Option.{option_map}
use Rattle.vocabulary.specs.World.{Rules}
use Rattle.language.specs.Reading.{tree_of}
use Rattle.language.specs.Table.{nodes_of}
use Rattle.language.specs.Tree.{Command}
use Rattle.machine.specs.State.{Ports}
use Rattle.sheet.specs.Sheets.{table_part}
use Rattle.sequencer.specs.declared.report.Report.{Report as ReportType}
use Rattle.sequencer.specs.Model.{Model}
use Rattle.session.specs.declared.Call.{Call}
use Rattle.session.specs.declared.Call.TheVariants.{Load, Open, Rewind, Run, Report}
use Rattle.session.specs.declared.Answer.{Answer}
use Rattle.session.specs.declared.Answer.TheVariants.{Done, Told, Refused}
use Rattle.session.specs.Acting.{scene, Acted}

-- a call and its answer, with feed and strip as the call found and as it left them
pub record Moment : Type 0 where
  pub call : Call
  pub answer : Answer
  pub before : Ports
  pub after : Ports

-- each call finds feed and strip as the one before it left them
abbrev pub Chained : Ports → List Moment → Ports → Type 0
Chained entry [] exit = entry ≡ exit
Chained entry (m ∷ ms) exit = (m.before ≡ entry) × Chained m.after ms exit

-- each call answers and does what that call by itself does, on the sequencer that the one before it left
abbrev pub OneByOne : Rules → Model → List Moment → Model → Type 0
OneByOne R first [] last = first ≡ last
OneByOne R first (m ∷ ms) last =
    (next : Model) × Acted R m.call (scene first m.before) m.answer (scene next m.after) × OneByOne R next ms last

-- what a call with its answer is to the takes: it begins one of a tree, or one more of the same tree; it grants fuel to the
-- one that goes on, or reports of it; or it is refused
pub data Event : Type 0 where
  begins : Command → Event
  begins_again : Event
  grants : ℕ → ReportType → Event
  reports : ReportType → Event
  refused : Event

abbrev pub if_done : Answer → Event → Event
if_done Done event = event
if_done (Told r) event = refused
if_done (Refused e) event = refused

abbrev pub if_told : Answer → (ReportType → Event) → Event
if_told Done event = refused
if_told (Told r) event = event r
if_told (Refused e) event = refused

abbrev pub event_of : Call → Answer → Event
event_of (Load table) answer = if_done answer (begins (tree_of (nodes_of table.now)))
event_of (Open sheet) answer = if_done answer (begins (tree_of (nodes_of (table_part sheet.now))))
event_of Rewind answer = if_done answer begins_again
event_of (Run fuel) answer = if_told answer (grants fuel)
event_of Report answer = if_told answer reports

abbrev pub event : Moment → Event
event m = event_of m.call m.answer

-- a take: the tree of the last accepted load or open; feed and strip as the call that begins it finds them; the sum of the
-- fuel of its accepted runs; what the last of these answered; feed and strip after its last call
pub record Take : Type 0 where
  pub tree : Command
  pub start : Ports
  pub granted : ℕ
  pub told : ReportType
  pub stop : Ports

-- before the first accepted run: not ended, 0 steps
abbrev pub not_run : ReportType
not_run = record { stop = None; steps = 0 }

abbrev pub opening : Ports → Ports → Command → Take
opening before after tree = record { tree = tree; start = before; granted = 0; told = not_run; stop = after }

abbrev pub granting : ℕ → ReportType → Ports → Take → Take
granting fuel told after t = record { tree = t.tree; start = t.start; granted = t.granted + fuel; told = told; stop = after }

abbrev pub lasting : Ports → Take → Take
lasting after t = record { tree = t.tree; start = t.start; granted = t.granted; told = t.told; stop = after }

-- the take that goes on after an event, given the one before it, if there is one
abbrev pub onward : Event → Ports → Ports → Option Take → Option Take
onward (begins tree) before after current = Some (opening before after tree)
onward begins_again before after current = option_map (λ t. opening before after t.tree) current
onward (grants fuel told) before after current = option_map (granting fuel told after) current
onward (reports told) before after current = option_map (lasting after) current
onward refused before after current = option_map (lasting after) current

abbrev pub listed : Option Take → List Take
listed None = []
listed (Some t) = t ∷ []

-- the take that is over with an event
abbrev pub closed : Event → Option Take → List Take
closed (begins tree) current = listed current
closed begins_again current = listed current
closed (grants fuel told) current = []
closed (reports told) current = []
closed refused current = []

abbrev pub next : Option Take → Moment → Option Take
next current m = onward (event m) m.before m.after current

-- the takes from here on, given the one that goes on: each lasts to the call that begins the next, or to the end
abbrev pub takes_from : Option Take → List Moment → List Take
takes_from current [] = listed current
takes_from current (m ∷ ms) = closed (event m) current ++ takes_from (next current m) ms

abbrev pub takes : List Moment → List Take
takes history = takes_from None history

-- a report says what the last accepted run of its take answered
abbrev pub TrueOf : Event → Option Take → Type 0
TrueOf (begins tree) current = Unit {0}
TrueOf begins_again current = Unit {0}
TrueOf (grants fuel told) current = Unit {0}
TrueOf (reports told) current = (t : Take) × (current ≡ Some t) × (told ≡ t.told)
TrueOf refused current = Unit {0}

abbrev pub TrueFrom : Option Take → List Moment → Type 0
TrueFrom current [] = Unit {0}
TrueFrom current (m ∷ ms) = TrueOf (event m) current × TrueFrom (next current m) ms

abbrev pub TrueReports : List Moment → Type 0
TrueReports history = TrueFrom None history
