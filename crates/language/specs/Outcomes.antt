-- What the work of a node can come to, and the single acts of the source meaning.
use Rattle.std.specs.Prelude.{ℕ, Bool, true, false, List, [], ◌∷◌, Some, None, Ok, Err, Option, ◌==◌}
use Rattle.vocabulary.specs.declared.end.End.{End}
use Rattle.vocabulary.specs.declared.end.End.TheVariants.{Empty, Fault, NoTruth, NoLocation, Full}
use Rattle.vocabulary.specs.declared.item.Item.{Item}
use Rattle.vocabulary.specs.declared.item.Item.TheVariants.{Reading, Fault as FaultItem}
use Rattle.vocabulary.specs.declared.value.Plain.{Plain}
use Rattle.vocabulary.specs.declared.value.Plain.TheVariants.{Number, Truth}
use Rattle.vocabulary.specs.declared.value.Value.{Value}
use Rattle.vocabulary.specs.declared.value.Value.TheVariants.{Plain as plain, Location}
use Rattle.vocabulary.specs.Numbers.{Answer}
use Rattle.vocabulary.specs.Tables.{found}
use Rattle.vocabulary.specs.World.{World, Rules, with_feed, after_put}
use Rattle.language.specs.Tree.{Expression, Command}

-- what a name stands for: a value, or a routine's parameter and body
pub data Denoted : Type 0 where
  value : Value → Denoted
  procedure_body : ℕ → Command → Denoted
  function_body : ℕ → Expression → Denoted

-- a binding; a list of them has the newest first, and what a routine's body sees are the bindings behind its own
pub data Binding : Type 0 where
  binding : ℕ → Denoted → Binding

-- what the work of a node comes to: done, with a result; ended, at a node; cut, since no visit was left; or lost, where the
-- tree has no meaning. The world is that of this moment, and the number is that of the visits left
pub data Outcome (A : Type 0) : Type 0 where
  done : A → World → ℕ → Outcome A
  ended : End → ℕ → World → ℕ → Outcome A
  cut : World → Outcome A
  lost : Outcome A

-- one after the other, unless the first is not done
abbrev pub bind : {A B : Type 0} → Outcome A → (A → World → ℕ → Outcome B) → Outcome B
bind (done a w b) k = k a w b
bind (ended e n w b) k = ended e n w b
bind (cut w) k = cut w
bind lost k = lost

-- what stands behind a name: what its newest binding denotes and the bindings behind that one, or nothing
pub data Found : Type 0 where
  named : Denoted → List Binding → Found
  unnamed : Found

abbrev pub find : List Binding → ℕ → Found
find [] x = unnamed
find (binding y th ∷ bs) x = elim (y == x) [ true ↦ named th bs | false ↦ find bs x ]

-- the value of a name
abbrev pub valued : Found → World → ℕ → Outcome Value
valued unnamed w b = lost
valued (named (value v) bs) w b = done v w b
valued (named (procedure_body y t) bs) w b = lost
valued (named (function_body y t) bs) w b = lost

-- what goes on with the parameter, the body and the bindings of a procedure, or of a function
abbrev pub as_procedure : Found → (ℕ → Command → List Binding → Outcome (Unit {0})) → Outcome (Unit {0})
as_procedure unnamed k = lost
as_procedure (named (value v) bs) k = lost
as_procedure (named (procedure_body y t) bs) k = k y t bs
as_procedure (named (function_body y t) bs) k = lost

abbrev pub as_function : Found → (ℕ → Expression → List Binding → Outcome Value) → Outcome Value
as_function unnamed k = lost
as_function (named (value v) bs) k = lost
as_function (named (procedure_body y t) bs) k = lost
as_function (named (function_body y t) bs) k = k y t bs

abbrev pub or_lost : {A : Type 0} → Option A → World → ℕ → Outcome A
or_lost None w b = lost
or_lost (Some a) w b = done a w b

-- the plain value of a value: a location's is its cell's, any other value is plain
abbrev pub deref : Value → World → ℕ → Outcome Plain
deref (plain p) w b = done p w b
deref (Location k) w b = or_lost (found w.cells k) w b

abbrev pub plainly : Outcome Value → Outcome Plain
plainly o = bind o deref

-- a read: the first item of the feed is taken
abbrev pub taken : ℕ → List Item → World → ℕ → Outcome Value
taken nd [] w b = ended Empty nd w b
taken nd (Reading z ∷ f) w b = done (plain (Number z)) (with_feed w f) b
taken nd (FaultItem j ∷ f) w b = ended (Fault j) nd (with_feed w f) b

-- an operation's answer
abbrev pub answered : ℕ → Answer → World → ℕ → Outcome Value
answered nd (Ok p) w b = done (plain p) w b
answered nd (Err e) w b = ended e nd w b

-- what goes on with a test, which has to be a truth
abbrev pub tested : {A : Type 0} → ℕ → Plain → World → ℕ → (Bool → Outcome A) → Outcome A
tested nd (Number z) w b k = ended NoTruth nd w b
tested nd (Truth t) w b k = k t

-- what goes on with the left side of an assignment, which has to be a location
abbrev pub located : {A : Type 0} → ℕ → Value → World → ℕ → (ℕ → Outcome A) → Outcome A
located nd (plain p) w b k = ended NoLocation nd w b
located nd (Location l) w b k = k l

-- an output, given whether there is room for it
abbrev pub putting : ℕ → Rules → Plain → World → ℕ → Bool → Outcome (Unit {0})
putting nd R p w b true = done tt (after_put R p w) b
putting nd R p w b false = ended Full nd w b
