-- What a feed of one reading and a strip for one value mean.
use Rattle.std.specs.Prelude.{ℕ, List, [], ◌∷◌, ℤ, Some, None, Option}
use Rattle.vocabulary.specs.declared.item.Item.{Item}
use Rattle.vocabulary.specs.declared.item.Item.TheVariants.{Reading}
use Rattle.vocabulary.specs.declared.value.Plain.{Plain}
use Rattle.ports.specs.Feeds.{Lawful}

-- the item that waits
abbrev pub item_in : Option ℤ → List Item
item_in (Some z) = Reading z ∷ []
item_in None = []

pub item_lawful : (reading : Option ℤ) → Lawful (item_in reading)
item_lawful (Some z) = (tt, tt)
item_lawful None = tt

-- the value held
abbrev pub value_in : Option Plain → List Plain
value_in (Some value) = value ∷ []
value_in None = []

-- the space left
abbrev pub places_in : Option Plain → ℕ
places_in (Some value) = 0
places_in None = 1
