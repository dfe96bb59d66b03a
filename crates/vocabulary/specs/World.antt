-- What a program acts on, and the rules that differ from strip to strip and from instrument to instrument.
use Rattle.std.specs.Prelude.{ℕ, ◌-◌, Bool, List, [], ◌∷◌, ◌++◌, nat_le}
use Rattle.vocabulary.specs.declared.code.Operation.{Operation}
use Rattle.vocabulary.specs.declared.item.Item.{Item}
use Rattle.vocabulary.specs.declared.value.Plain.{Plain}
use Rattle.vocabulary.specs.declared.value.Value.{Value}
use Rattle.vocabulary.specs.Numbers.{Answer, operate32}

-- the cells, the items that wait in the feed, the values that the strip holds, and the space left on it
pub record World : Type 0 where
  pub cells : List Plain
  pub feed : List Item
  pub strip : List Plain
  pub space : ℕ

abbrev pub world : List Plain → List Item → List Plain → ℕ → World
world c f s r = record { cells = c; feed = f; strip = s; space = r }

-- the price of each value on the strip, what an operation gives, and the maximum of each table
pub record Rules : Type 0 where
  pub price : Plain → ℕ
  pub operate : Operation → Value → Value → Answer
  pub limit : ℕ

-- the rules of the instrument, at a strip's prices: 32-bit numbers and tables of 512
abbrev pub rules : (Plain → ℕ) → Rules
rules price = record { price = price; operate = operate32; limit = 512 }

-- the same world with other cells, or another feed
abbrev pub with_cells : World → List Plain → World
with_cells w cs = world cs w.feed w.strip w.space

abbrev pub with_feed : World → List Item → World
with_feed w f = world w.cells f w.strip w.space

-- whether a put finds room, and the world after it
abbrev pub has_room : Rules → Plain → World → Bool
has_room R p w = nat_le (R.price p) w.space

abbrev pub after_put : Rules → Plain → World → World
after_put R p w = world w.cells w.feed (w.strip ++ (p ∷ [])) (w.space - R.price p)
