-- What the translator's tables hold, and what its functions do to them.
use Rattle.std.specs.Prelude.{◌≡◌, ◌≢◌, ℕ, suc, ◌<◌, ◌≤◌, List, ◌∷◌, ◌++◌, reverse, length, take, Ok, Err, Option, Result, slice_set}
use Rattle.std.specs.List.{HoldsAt}
use Rattle.vocabulary.specs.declared.code.Instruction.TheVariants.{Halt}
use Rattle.vocabulary.specs.declared.code.Word.{Word}
use Rattle.vocabulary.specs.declared.refusal.Refusal.{Refusal}
use Rattle.language.specs.declared.name.Entry.{Entry}
use Rattle.language.specs.declared.name.Place.{Place}
use Rattle.language.specs.declared.name.Role.{Role}
use Rattle.language.specs.Names.{naming}
use Rattle.language.specs.Scope.{newer_of}
use Rattle.language.specs.Translation.{one}
use Rattle.translation.specs.declared.scope.Scope.{Scope}
use Rattle.translation.specs.declared.writer.Gap.{Gap}
use Rattle.translation.specs.declared.writer.Writer.{Writer}

-- the words written so far
abbrev pub text : Writer → List Word
text c = c.words

-- the visible names, the newest first
unfoldable pub visible : Scope → List Entry
visible s = reverse s.entries

-- from c to d the words ws were added, and the next position is p
pub record Added (c d : Writer) (ws : List Word) (p : ℕ) : Type 0 where
  pub words : text d ≡ text c ++ ws
  pub end : length (text d) ≡ p

-- from c to d the word at a position became w
pub record Aimed (c d : Writer) (at : ℕ) (w : Word) : Type 0 where
  pub words : text d ≡ slice_set (text c) at w
  pub end : length (text d) ≡ length (text c)

-- from c to d a word of a node was added for a jump to come, and g says where it stands
pub record Reserved (c d : Writer) (node : ℕ) (g : Gap) : Type 0 where
  pub added : Added c d (one Halt node) (suc (length (text c)))
  pub here : g.at ≡ length (text c)
  pub of_node : g.node ≡ node

-- what was visible in s stands in t too, below what t may have more
pub record Older (s t : Scope) : Type 0 where
  pub count : length s.entries ≤ length t.entries
  pub kept : take (length s.entries) t.entries ≡ s.entries

-- a name more is visible, in front of all others
pub record Bound (s t : Scope) (e : Entry) : Type 0 where
  pub older : Older s t
  pub seen : visible t ≡ e ∷ visible s
  pub more : length t.entries ≡ suc (length s.entries)

-- no entry has a name; and where its newest entry stands, counted from the oldest of all
abbrev pub Unnamed : List Entry → ℕ → Type 0
Unnamed entries name = (k : ℕ) → k < length entries → HoldsAt (λ e. e.name ≢ name) entries k

abbrev pub NewestAt : List Entry → ℕ → ℕ → Type 0
NewestAt entries name n = (n < length entries) × HoldsAt (λ e. e.name ≡ name) entries n × ((k : ℕ) → n < k → k < length entries → HoldsAt (λ e. e.name ≢ name) entries k)

-- the answer for a name that is wanted in a role at a node, given its newest entry
abbrev pub Resolved : ℕ → Role → Option Place → Result ℕ Refusal → Type 0
Resolved nd role place (Ok newer) = (naming nd role place ≡ Ok tt) × (newer ≡ newer_of place)
Resolved nd role place (Err e) = naming nd role place ≡ Err e
