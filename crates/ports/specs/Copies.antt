-- What copying readings from a feed to a strip comes to.
use Rattle.std.specs.Prelude.{◌≡◌, ℕ, zero, suc, ◌-◌, cond, List, [], ◌∷◌, ◌++◌, Ok, Err, Result, nat_le}
use Rattle.vocabulary.specs.declared.item.Item.{Item}
use Rattle.vocabulary.specs.declared.item.Item.TheVariants.{Reading, Fault}
use Rattle.vocabulary.specs.declared.value.Plain.{Plain}
use Rattle.vocabulary.specs.declared.value.Plain.TheVariants.{Number}
use Rattle.ports.specs.declared.copy.Stop.{Stop}
use Rattle.ports.specs.declared.copy.Stop.TheVariants.{Empty, Fault as Faulted, Full}
use Rattle.ports.specs.Kept.{overlay}

-- what a copy answers: all that was asked for was copied, or why it stopped before
abbrev pub Stopped : Type 0
Stopped = Result (Unit {0}) Stop

-- the items that wait, the values that the strip holds, the space left on it, and what the copy answers
pub record Copied : Type 0 where
  pub waiting : List Item
  pub held : List Plain
  pub space : ℕ
  pub stop : Stopped

abbrev pub outcome : List Item → List Plain → ℕ → Stopped → Copied
outcome items values space stop = record { waiting = items; held = values; space = space; stop = stop }

-- at most n readings copied at these prices: until none is left, a fault comes, or one finds no room
abbrev pub copied : (Plain → ℕ) → ℕ → List Item → List Plain → ℕ → Copied
copied price zero items values space = outcome items values space (Ok tt)
copied price (suc n) [] values space = outcome [] values space (Err Empty)
copied price (suc n) (Fault fault ∷ items) values space = outcome items values space (Err (Faulted fault))
copied price (suc n) (Reading z ∷ items) values space =
    cond (nat_le (price (Number z)) space)
    (copied price n items (values ++ (Number z ∷ [])) (space - price (Number z)))
    (outcome items values space (Err (Full z)))

-- a copy into memory: the items that wait after it, what it answers, and the memory, where `written` is how values are written
pub record Onto {X : Type 0} (written : List Plain → List X) (copy : Copied) (before after : List X) (items : List Item) (answer : Stopped) : Type 0 where
  pub waiting : items ≡ copy.waiting
  pub stop : answer ≡ copy.stop
  pub memory : after ≡ overlay (written copy.held) before
