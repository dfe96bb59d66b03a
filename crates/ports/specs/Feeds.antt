-- What a feed means: the list of the items that wait in it.
use Rattle.std.specs.Prelude.{◌≡◌, ◌≤◌, List, [], ◌∷◌, Some, None, Option}
use Rattle.vocabulary.specs.declared.item.Item.{Item}
use Rattle.vocabulary.specs.declared.item.Item.TheVariants.{Reading, Fault}

-- what a take answers, by the items that wait before and after it
abbrev pub Took : List Item → List Item → Option Item → Type 0
Took before after None = (before ≡ []) × (after ≡ [])
Took before after (Some item) = before ≡ item ∷ after

-- a fault's code is at least 1; it is a byte, so it is at most 255
abbrev pub LawfulItem : Item → Type 0
LawfulItem (Reading z) = Unit {0}
LawfulItem (Fault fault) = 1 ≤ fault.code

-- each item is lawful
abbrev pub Lawful : List Item → Type 0
Lawful [] = Unit {0}
Lawful (item ∷ items) = LawfulItem item × Lawful items
