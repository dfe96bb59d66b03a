-- What lines plan: one feed and one strip, and then calls.
use Rattle.std.specs.Prelude.{◌≡◌, ℕ, List, [], ◌∷◌, ◌++◌, vec_items, Option, Some, None, Ok, Err, Result, MatchOption, ◌≢◌}
use Rattle.notation.specs.declared.error.ReadError.TheVariants.{Memory}
use Rattle.notation.specs.declared.plan.CallPlan.{CallPlan}
use Rattle.notation.specs.declared.plan.FeedPlan.{FeedPlan}
use Rattle.notation.specs.declared.plan.Line.{Line}
use Rattle.notation.specs.declared.plan.Line.TheVariants.{Feed, Strip, Call}
use Rattle.notation.specs.declared.plan.StripPlan.{StripPlan}
use Rattle.notation.specs.Lines.{Spoken, InRange, Stands, said, spoken}
use Rattle.planned.specs.declared.plan.Plan.{Plan}
use Rattle.planned.specs.declared.plan.PlanError.{PlanError}
use Rattle.planned.specs.declared.plan.PlanError.TheVariants.{Line as BadLine, SecondFeed, SecondStrip, CallTooEarly}
use Rattle.planned.specs.declared.plan.Session.{Session}

-- what has been planned so far: a feed and a strip, if they have come, and the calls in their order
pub record Planned : Type 0 where
  pub feed : Option FeedPlan
  pub strip : Option StripPlan
  pub calls : List CallPlan

abbrev pub planned : Plan → Planned
planned p = record { feed = p.feed; strip = p.strip; calls = vec_items p.calls }

abbrev pub nothing_planned : Planned
nothing_planned = record { feed = None; strip = None; calls = [] }

-- a second of what there is one of
abbrev pub second : {A : Type 0} → PlanError → Option A → Option PlanError
second e None = None
second e (Some x) = Some e

-- a call before feed and strip
abbrev pub early : Option FeedPlan → Option StripPlan → Option PlanError
early None strip = Some CallTooEarly
early (Some feed) None = Some CallTooEarly
early (Some feed) (Some strip) = None

-- why a line has no place, if it has none
abbrev pub no_place : Planned → Line → Option PlanError
no_place p (Feed feed) = second SecondFeed p.feed
no_place p (Strip strip) = second SecondStrip p.strip
no_place p (Call call) = early p.feed p.strip

-- the same with one line more
abbrev pub with_line : Planned → Line → Planned
with_line p (Feed feed) = record { feed = Some feed; strip = p.strip; calls = p.calls }
with_line p (Strip strip) = record { feed = p.feed; strip = Some strip; calls = p.calls }
with_line p (Call call) = record { feed = p.feed; strip = p.strip; calls = p.calls ++ (call ∷ []) }

-- a line is taken in where it has a place; else nothing changes, and the error says why, unless memory was wanting
abbrev pub Adds : Line → Planned → Planned → Result (Unit {0}) PlanError → Type 0
Adds line before after (Ok u) = (no_place before line ≡ None) × (after ≡ with_line before line)
Adds line before after (Err e) = (after ≡ before) × (e ≢ BadLine Memory → no_place before line ≡ Some e)

-- what a text says is taken in; else nothing changes, and either the text says nothing that could be, or what it says has no place
abbrev pub Reads : List ℕ → Planned → Planned → Result (Unit {0}) PlanError → Type 0
Reads text before after (Ok u) =
    (l : Option Line) × Stands text (said l) × MatchOption l (after ≡ before) (λ line. (no_place before line ≡ None) × (after ≡ with_line before line))
Reads text before after (Err (BadLine e)) = (after ≡ before) × (e ≢ Memory → (s : Spoken) → InRange s → Stands text s → ⊥)
Reads text before after (Err e) = (after ≡ before) × ((line : Line) × Stands text (spoken line) × (no_place before line ≡ Some e))

-- a session is whole once there are a feed and a strip
abbrev pub Finishes : Planned → Option Session → Type 0
Finishes p result =
    MatchOption result (early p.feed p.strip ≡ Some CallTooEarly)
    (λ s. (p.feed ≡ Some s.feed) × (p.strip ≡ Some s.strip) × (p.calls ≡ vec_items s.calls))
