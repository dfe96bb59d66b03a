-- Work between a feed and a strip that are planned, and what it leaves there.
use Rattle.std.specs.Prelude.{◌≡◌, ℕ, Bool, true, false, List, [], vec_items, Ok, Err, Result}
use Rattle.vocabulary.specs.declared.item.Item.{Item}
use Rattle.vocabulary.specs.declared.refusal.Cause.TheVariants.{RampRange}
use Rattle.vocabulary.specs.declared.value.Plain.{Plain}
use Rattle.vocabulary.specs.Refusals.{refusal}
use Rattle.vocabulary.specs.World.{Rules, rules}
use Rattle.ports.specs.Lines.{line_length, values_in}
use Rattle.ports.specs.Ramps.{ramp_fits, ramp_items}
use Rattle.ports.specs.Records.{one, values_of}
use Rattle.ports.specs.Traces.{items_of}
use Rattle.machine.specs.State.{Ports, ports}
use Rattle.notation.specs.declared.plan.FeedPlan.{FeedPlan}
use Rattle.notation.specs.declared.plan.FeedPlan.TheVariants.{Trace, Ramp}
use Rattle.notation.specs.declared.plan.StripPlan.{StripPlan}
use Rattle.notation.specs.declared.plan.StripPlan.TheVariants.{Records, Text}
use Rattle.planned.specs.declared.carry.CarryError.{CarryError}
use Rattle.planned.specs.declared.carry.CarryError.TheVariants.{Refused, Failed}
use Rattle.planned.specs.declared.carry.Filled.{Filled}
use Rattle.planned.specs.declared.carry.Filled.TheVariants.{Records as FilledRecords, Text as FilledText}
use Rattle.planned.specs.declared.carry.Left.{Left}
use Rattle.planned.specs.declared.carry.Outcome.{Outcome}

-- the items of a feed as it is planned
abbrev pub planned_items : FeedPlan → List Item
planned_items (Trace records) = items_of (vec_items records)
planned_items (Ramp start step count) = ramp_items start step count

-- whether there can be such a feed: a ramp keeps within 32 bits
abbrev pub feed_fits : FeedPlan → Bool
feed_fits (Trace records) = true
feed_fits (Ramp start step count) = ramp_fits start step count

-- the space of a strip as it is planned, and the rules at its prices
abbrev pub planned_space : StripPlan → ℕ
planned_space (Records n) = n
planned_space (Text n) = n

abbrev pub planned_rules : StripPlan → Rules
planned_rules (Records n) = rules one
planned_rules (Text n) = rules line_length

-- feed and strip as they are planned: the strip holds nothing
abbrev pub planned_ports : FeedPlan → StripPlan → Ports
planned_ports feed strip = ports (planned_items feed) [] (planned_space strip)

-- the values that the filled part of a strip's memory says
abbrev pub values_held : Filled → List Plain
values_held (FilledRecords records) = values_of (vec_items records)
values_held (FilledText bytes) = values_in (vec_items bytes)

-- feed and strip as they are left
abbrev pub left_ports : Left → Ports
left_ports left = ports (vec_items left.items) (values_held left.filled) left.space

-- what carrying out comes to: the work does this between feed and strip as they are planned and as they are left; or the ramp is
-- refused, exactly where it leaves 32 bits; or the work failed, or the memory for it
abbrev pub Carried : {A E : Type 0} → (A → Ports → Ports → Type 0) → FeedPlan → StripPlan → Result (Outcome A) (CarryError E) → Type 0
Carried does feed strip (Ok o) = (feed_fits feed ≡ true) × does o.answer (planned_ports feed strip) (left_ports o.left)
Carried does feed strip (Err (Refused e)) = (feed_fits feed ≡ false) × (e ≡ refusal RampRange 0)
Carried does feed strip (Err (Failed e)) = Unit {0}
