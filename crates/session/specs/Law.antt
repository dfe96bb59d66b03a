-- The law of takes: whatever is called, in whatever order, every take does what its tree means.
use Rattle.std.specs.Prelude.{◌≡◌, ℕ, ◌+◌, ◌*◌, ◌≤◌, List, [], map, Some, None}
use Rattle.std.specs.List.{AllByRecursion}
use Rattle.vocabulary.specs.declared.end.End.{End}
use Rattle.vocabulary.specs.World.{World, world, Rules}
use Rattle.language.specs.Meaning.{Course, meaning}
use Rattle.language.specs.Meaning.Course.{finished}
use Rattle.language.specs.Translation.{program}
use Rattle.machine.specs.Machine.{iterate, start}
use Rattle.machine.specs.State.{Config, Ports, ports, sides}
use Rattle.machine.specs.State.State.{running}
use Rattle.agreement.specs.Agreement.{FirstPartOf}
use Rattle.sequencer.specs.declared.report.Stop.{Stop}
use Rattle.sequencer.specs.Model.{Model, fresh}
use Rattle.session.specs.declared.Call.{Call}
use Rattle.session.specs.declared.Answer.{Answer}
use Rattle.session.specs.History.{Moment, Chained, OneByOne, Take, takes, TrueReports}

-- the world of a feed and a strip: no cells yet
abbrev pub world_of : Ports → World
world_of o = world [] o.feed o.strip o.space

-- the feed and the strip of a world
abbrev pub ports_of : World → Ports
ports_of w = ports w.feed w.strip w.space

-- the source meaning of a take, within k visits
abbrev pub meaning_of : Rules → Take → ℕ → Course
meaning_of R t k = meaning R t.tree (world_of t.start) k

pub record Law (R : Rules) (t : Take) : Type 0 where
  -- where the source meaning ends after v visits and the fuel granted is at least 3 × v + 1, the take has ended, in at most
  -- 3 × v + 1 steps
  pub ends : (v : ℕ) (e : End) (n : ℕ) (w : World) → meaning_of R t v ≡ finished e n w 0 → 3 * v + 1 ≤ t.granted →
      (t.told.stop ≡ Some (record { end = e; node = n })) × (t.told.steps ≤ 3 * v + 1)
  -- where the take has ended, its source meaning ends too, with the same end at the same node, and feed and strip as they are
  pub alike : (s : Stop) → t.told.stop ≡ Some s →
      (v : ℕ) × (w : World) × (meaning_of R t v ≡ finished s.end s.node w 0) × (t.stop ≡ ports_of w)
  -- where it has not ended, each step that was paid for was made
  pub paid : t.told.stop ≡ None → t.told.steps ≡ t.granted
  -- and feed and strip are as the machine leaves them after so many steps of the tree's code
  pub left : t.told.stop ≡ None →
      (c : Config) × (iterate R (program t.tree) t.told.steps (start (world_of t.start)) ≡ running c) × (t.stop ≡ sides c)
  -- and what the feed lost and the strip gained are first parts, in order, of what the source meaning takes and puts within
  -- some number of visits
  pub first : t.told.stop ≡ None → (k : ℕ) × FirstPartOf (world_of t.start) (world_of t.stop) (meaning_of R t k)

-- there is a history of these calls and these answers, from feed and strip at entry to feed and strip at exit, in which
pub record Session (R : Rules) (calls : List Call) (answers : List Answer) (entry exit : Ports) : Type 0 where
  pub history : List Moment
  pub of_calls : map (λ m. m.call) history ≡ calls
  pub of_answers : map (λ m. m.answer) history ≡ answers
  pub chained : Chained entry history exit
  -- every call answers and does what it does by itself, on a sequencer that was new before the first
  pub last : Model
  pub exact : OneByOne R fresh history last
  -- every take keeps the law
  pub lawful : AllByRecursion (Law R) (takes history)
  -- and every report is true
  pub truthful : TrueReports history
