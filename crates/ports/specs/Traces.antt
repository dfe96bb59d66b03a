-- The items of a trace.
use Rattle.std.specs.Prelude.{ℕ, zero, suc, List, map, ℤ}
use Rattle.vocabulary.specs.declared.item.Item.{Item}
use Rattle.vocabulary.specs.declared.item.Item.TheVariants.{Reading, Fault}
use Rattle.ports.specs.declared.trace.Record.{Record}

-- code 0 marks a reading, any other code is that fault
abbrev pub coded : ℕ → ℤ → Item
coded zero reading = Reading reading
coded (suc k) reading = Fault record { code = suc k }

-- the item of a record
abbrev pub item_of : Record → Item
item_of r = coded r.code r.reading

-- the items of records
abbrev pub items_of : List Record → List Item
items_of rs = map item_of rs
