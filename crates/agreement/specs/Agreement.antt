-- A tree and its code agree: what the machine does with the code is what the tree means, for every accepted tree, every feed and
-- strip, and whatever the rules are.
use Rattle.std.specs.Prelude.{◌≡◌, ℕ, ◌+◌, ◌*◌, ◌<◌, ◌≤◌, List, [], ◌++◌, length, ◌≢◌}
use Rattle.vocabulary.specs.declared.end.End.{End}
use Rattle.vocabulary.specs.declared.item.Item.{Item}
use Rattle.vocabulary.specs.declared.value.Plain.{Plain}
use Rattle.vocabulary.specs.World.{World, Rules}
use Rattle.language.specs.Tree.{Command, size_c}
use Rattle.language.specs.Names.{NamedC}
use Rattle.language.specs.Translation.{program}
use Rattle.language.specs.Meaning.{Course, meaning}
use Rattle.language.specs.Meaning.Course.{finished, unfinished, meaningless}
use Rattle.machine.specs.State.{Config}
use Rattle.machine.specs.State.State.{running, halted, broken}
use Rattle.machine.specs.Machine.{iterate, taken, start}

-- from one world to another, these items were taken from the feed and these values put on the strip, in this order
pub record Did (before after : World) (items : List Item) (values : List Plain) : Type 0 where
  pub fed : before.feed ≡ items ++ after.feed
  pub held : after.strip ≡ before.strip ++ values

-- what was taken and put up to now is the first part of what is taken and put up to later
pub record FirstPart (before now later : World) : Type 0 where
  pub items : List Item
  pub values : List Plain
  pub more_items : List Item
  pub more_values : List Plain
  pub part : Did before now items values
  pub whole : Did before later (items ++ more_items) (values ++ more_values)

-- the same of what a meaning takes and puts
abbrev pub FirstPartOf : World → World → Course → Type 0
FirstPartOf before now (finished e n w b) = FirstPart before now w
FirstPartOf before now (unfinished w) = FirstPart before now w
FirstPartOf before now meaningless = ⊥

-- each table of the machine holds at most n
pub record Within (n : ℕ) (c : Config) : Type 0 where
  pub values : length c.values ≤ n
  pub bindings : c.bindings ≤ n
  pub frames : length c.dump ≤ n
  pub cells : length c.world.cells ≤ n

-- a tree and its code, from one world
pub record Agrees (R : Rules) (t : Command) (w : World) : Type 0 where
  -- a meaning that ends after v visits: within 3 × v + 1 steps the machine has ended alike
  pub soon : (v : ℕ) (e : End) (n : ℕ) (w' : World) → meaning R t w v ≡ finished e n w' 0 →
      iterate R (program t) (3 * v + 1) (start w) ≡ halted e n w'
  -- and however long it is run, it carries out no more steps than that
  pub steps : (v : ℕ) (e : End) (n : ℕ) (w' : World) → meaning R t w v ≡ finished e n w' 0 →
      (s : ℕ) → taken R (program t) s (start w) ≤ 3 * v + 1
  -- a machine that still runs has carried out every step that it was granted
  pub granted : (s : ℕ) (c : Config) → iterate R (program t) s (start w) ≡ running c → taken R (program t) s (start w) ≡ s
  -- a machine that has ended: after some number of visits the meaning ends alike
  pub alike : (s : ℕ) (e : End) (n : ℕ) (w' : World) → iterate R (program t) s (start w) ≡ halted e n w' →
      (v : ℕ) × (meaning R t w v ≡ finished e n w' 0)
  -- a machine that still runs: what it has taken and put is the first part of what the meaning does within some number of visits
  pub first : (s : ℕ) (c : Config) → iterate R (program t) s (start w) ≡ running c →
      (k : ℕ) × FirstPartOf w c.world (meaning R t w k)
  -- an accepted tree never lacks a meaning
  pub meant : (k : ℕ) → meaning R t w k ≢ meaningless
  -- the machine is never broken: there always is an instruction, with what it needs, and room for what it adds
  pub unbroken : (s : ℕ) → iterate R (program t) s (start w) ≢ broken
  -- no table ever holds more than the tree has nodes
  pub room : (s : ℕ) (c : Config) → iterate R (program t) s (start w) ≡ running c → Within (size_c t) c

-- for every tree whose names are in order and whose nodes are within the maximum, from every world without cells
abbrev pub Agreement : Type 0
Agreement = (R : Rules) (t : Command) (w : World) → NamedC t [] → size_c t ≤ R.limit → w.cells ≡ [] → Agrees R t w

-- a meaning that ends after v visits does so after no other number: v is one number
pub record Exact (R : Rules) (t : Command) (w : World) (v : ℕ) (e : End) (n : ℕ) (w' : World) : Type 0 where
  -- of m more visits, m are left
  pub more : (m : ℕ) → meaning R t w (v + m) ≡ finished e n w' m
  -- with fewer it is unfinished
  pub fewer : (k : ℕ) → k < v → (u : World) × (meaning R t w k ≡ unfinished u)
  -- no other number of visits is used up to the last by an end
  pub once : (k : ℕ) (f : End) (m : ℕ) (u : World) → meaning R t w k ≡ finished f m u 0 → k ≡ v

-- for every tree, accepted or not, from every world
abbrev pub ExactVisits : Type 0
ExactVisits = (R : Rules) (t : Command) (w : World) (v : ℕ) (e : End) (n : ℕ) (w' : World) →
    meaning R t w v ≡ finished e n w' 0 → Exact R t w v e n w'
