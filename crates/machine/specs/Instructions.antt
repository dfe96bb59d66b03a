-- The instructions, one function each, over the machine's own part and, where it is touched, the feed or the strip. Each is given
-- what it looks at: the maximum of a table, the rule of operations or the prices, and the list that it takes apart.
use Rattle.std.specs.Prelude.{ℕ, suc, ◌-◌, Bool, true, false, List, [], ◌∷◌, ◌++◌, length, take, drop, Some, None, Ok, Err, Option, nat_le, nat_lt, slice_set}
use Rattle.vocabulary.specs.declared.code.Operation.{Operation}
use Rattle.vocabulary.specs.declared.end.End.TheVariants.{Empty, Fault, Full, NoLocation, NoTruth}
use Rattle.vocabulary.specs.declared.item.Item.{Item}
use Rattle.vocabulary.specs.declared.item.Item.TheVariants.{Reading, Fault as FaultItem}
use Rattle.vocabulary.specs.declared.value.Plain.{Plain}
use Rattle.vocabulary.specs.declared.value.Plain.TheVariants.{Number, Truth}
use Rattle.vocabulary.specs.declared.value.Value.{Value}
use Rattle.vocabulary.specs.declared.value.Value.TheVariants.{Plain as plain, Location}
use Rattle.vocabulary.specs.Numbers.{Answer}
use Rattle.vocabulary.specs.Tables.{found}
use Rattle.machine.specs.declared.tables.Bound.{Bound}
use Rattle.machine.specs.declared.tables.Bound.TheVariants.{Holds, Body}
use Rattle.machine.specs.State.{Core, core, Dump, Turn, Fed, Spent}
use Rattle.machine.specs.State.Dump.{frame}
use Rattle.machine.specs.State.Turn.{goes, ends, stuck}
use Rattle.machine.specs.State.Fed.{fed}
use Rattle.machine.specs.State.Spent.{spent}

-- a turn where a table has room, and else stuck
abbrev pub guard : Bool → Turn → Turn
guard true t = t
guard false t = stuck

-- the same machine with other values, with other cells, or at another position
abbrev pub with_stack : List Value → Core → Core
with_stack vs k = core k.position vs k.environment k.bindings k.dump k.cells

abbrev pub with_store : List Plain → Core → Core
with_store cs k = core k.position k.values k.environment k.bindings k.dump cs

abbrev pub goto : ℕ → Core → Core
goto p k = core p k.values k.environment k.bindings k.dump k.cells

-- NUM, TRUTH: a value is pushed
abbrev pub push : ℕ → Value → Core → Turn
push limit v k = guard (nat_lt (length k.values) limit) (goes (with_stack (v ∷ k.values) k))

-- READ: the first item is taken off the feed
abbrev pub take_item : ℕ → Item → Core → Turn
take_item limit (Reading z) k = push limit (plain (Number z)) k
take_item limit (FaultItem j) k = ends (Fault j) k.cells

abbrev pub read : ℕ → List Item → Core → Fed
read limit [] k = fed (ends Empty k.cells) []
read limit (i ∷ f) k = fed (take_item limit i k) f

-- LOOK: what is bound is pushed; a body is no value
abbrev pub look : ℕ → Option Bound → Core → Turn
look limit None k = stuck
look limit (Some (Holds v)) k = push limit v k
look limit (Some (Body p)) k = stuck

-- the top replaced by a plain value, if there is one
abbrev pub replace_top : Option Plain → List Value → Core → Turn
replace_top None vs k = stuck
replace_top (Some p) vs k = goes (with_stack (plain p ∷ vs) k)

-- the plain value of a value: a location's is its cell's
abbrev pub plain_of : List Plain → Value → Option Plain
plain_of cs (plain p) = Some p
plain_of cs (Location l) = found cs l

-- DEREF: a location on top is turned into the value of its cell
abbrev pub deref : List Value → Core → Turn
deref [] k = stuck
deref (v ∷ vs) k = replace_top (plain_of k.cells v) vs k

-- OP: the right operand is on top, the left below it; their place is taken by the result
abbrev pub answer : Answer → List Value → Core → Turn
answer (Ok p) vs k = replace_top (Some p) vs k
answer (Err e) vs k = ends e k.cells

abbrev pub operation : (Operation → Value → Value → Answer) → Operation → List Value → Core → Turn
operation f o [] k = stuck
operation f o (y ∷ []) k = stuck
operation f o (y ∷ (x ∷ vs)) k = answer (f o x y) vs k

-- JF: pops a truth, and jumps if it is false
abbrev pub unless_true : Bool → ℕ → Core → Turn
unless_true true p k = goes k
unless_true false p k = goes (goto p k)

abbrev pub test : Value → ℕ → Core → Turn
test (plain (Number z)) p k = ends NoTruth k.cells
test (plain (Truth t)) p k = unless_true t p k
test (Location l) p k = ends NoTruth k.cells

abbrev pub jump_false : ℕ → List Value → Core → Turn
jump_false p [] k = stuck
jump_false p (v ∷ vs) k = test v p (with_stack vs k)

-- CLOS, and what BIND, NEW and CALL share: a binding is added to the environment
abbrev pub bind_as : ℕ → Bound → Core → Turn
bind_as limit e k = guard (nat_lt k.bindings limit) (goes (core k.position k.values (e ∷ k.environment) (suc k.bindings) k.dump k.cells))

-- environment and bindings in use put on the dump; and the machine under another environment
abbrev pub dumped : ℕ → Core → Core
dumped q k = core k.position k.values k.environment k.bindings (frame k.environment k.bindings q ∷ k.dump) k.cells

abbrev pub under : List Bound → Core → Core
under m k = core k.position k.values m k.bindings k.dump k.cells

-- ENTER: the dump takes the number of cells too
abbrev pub enter : ℕ → Core → Turn
enter limit k = guard (nat_lt (length k.dump) limit) (goes (dumped (length k.cells) k))

-- CALL: pops the argument, dumps environment and next position, and enters the body under the argument and the body's environment
abbrev pub invoke : ℕ → Value → Option Bound → ℕ → Core → Turn
invoke limit v None d k = stuck
invoke limit v (Some (Holds u)) d k = stuck
invoke limit v (Some (Body p)) d k =
    guard (nat_lt (length k.dump) limit) (bind_as limit (Holds v) (goto p (under (drop (suc d) k.environment) (dumped k.position k))))

abbrev pub call : ℕ → ℕ → List Value → Core → Turn
call limit d [] k = stuck
call limit d (v ∷ vs) k = invoke limit v (found k.environment d) d (with_stack vs k)

-- RET: environment, bindings in use and position are taken back
abbrev pub ret : List Dump → Core → Turn
ret [] k = stuck
ret (frame m n q ∷ fr) k = goes (core q k.values m n fr k.cells)

-- LEAVE: environment, bindings in use and cells are taken back
abbrev pub leave : List Dump → Core → Turn
leave [] k = stuck
leave (frame m n q ∷ fr) k = goes (core k.position k.values m n fr (take q k.cells))

-- ISLOC: tests the top and leaves it
abbrev pub is_loc : List Value → Core → Turn
is_loc [] k = stuck
is_loc (plain p ∷ vs) k = ends NoLocation k.cells
is_loc (Location l ∷ vs) k = goes k

-- STORE: pops a value and a location, and writes the cell
abbrev pub write : Value → Value → Core → Turn
write (plain q) v k = stuck
write (Location l) (Location j) k = stuck
write (Location l) (plain p) k = guard (nat_lt l (length k.cells)) (goes (with_store (slice_set k.cells l p) k))

abbrev pub store : List Value → Core → Turn
store [] k = stuck
store (v ∷ []) k = stuck
store (v ∷ (x ∷ vs)) k = write x v (with_stack vs k)

-- PUT: pops a value onto the strip, where there is room for its price
abbrev pub put_if : (Plain → ℕ) → Bool → Plain → List Value → Core → List Plain → ℕ → Spent
put_if price true p vs k h n = spent (goes (with_stack vs k)) (h ++ (p ∷ [])) (n - price p)
put_if price false p vs k h n = spent (ends Full k.cells) h n

abbrev pub put : (Plain → ℕ) → List Value → Core → List Plain → ℕ → Spent
put price [] k h n = spent stuck h n
put price (Location l ∷ vs) k h n = spent stuck h n
put price (plain p ∷ vs) k h n = put_if price (nat_le (price p) n) p vs k h n

-- BIND: binds a popped value
abbrev pub bind : ℕ → List Value → Core → Turn
bind limit [] k = stuck
bind limit (v ∷ vs) k = bind_as limit (Holds v) (with_stack vs k)

-- NEW: binds a new cell that holds a popped value
abbrev pub new : ℕ → List Value → Core → Turn
new limit [] k = stuck
new limit (Location l ∷ vs) k = stuck
new limit (plain p ∷ vs) k =
    guard (nat_lt (length k.cells) limit) (bind_as limit (Holds (Location (length k.cells))) (with_store (k.cells ++ (p ∷ [])) (with_stack vs k)))
