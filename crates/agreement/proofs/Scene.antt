-- The invariant of the simulation: what the source sees and what the machine sees.
--
--     scope          the names, as the translation knows them      entry x role  ∷  ..
--     bindings       what they denote in the source                binding x th  ∷  ..
--     environment    what they are bound to in the machine         bound         ∷  ..
--
-- The three lists go in step. A value is bound to itself; a routine to a position at which the code of its body stands, translated
-- under the parameter and the scope behind the routine's own entry, with RET behind it.
use Rattle.std.proofs.Common.{◌≡◌, ℕ, suc, ◌+◌, ◌<◌, ◌≤◌, List, [], ◌∷◌, length, arith}
use Rattle.vocabulary.specs.declared.code.Instruction.TheVariants.{Ret}
use Rattle.vocabulary.specs.declared.code.Word.{Word}
use Rattle.vocabulary.specs.declared.value.Value.{Value}
use Rattle.vocabulary.specs.declared.value.Value.TheVariants.{Plain as plain, Location}
use Rattle.vocabulary.specs.World.{World}
use Rattle.language.specs.declared.name.Entry.{Entry}
use Rattle.language.specs.declared.name.Role.{Role}
use Rattle.language.specs.declared.name.Role.TheVariants.{Value as a_value, Procedure, Function}
use Rattle.language.specs.Tree.{size_e, size_c}
use Rattle.language.specs.Scope.{entry, scope_inside}
use Rattle.language.specs.Outcomes.{Denoted, Binding}
use Rattle.language.specs.Outcomes.Binding.{binding}
use Rattle.language.specs.Outcomes.Denoted.{value, procedure_body, function_body}
use Rattle.machine.specs.declared.tables.Bound.{Bound}
use Rattle.machine.specs.declared.tables.Bound.TheVariants.{Holds, Body}
use Rattle.machine.specs.State.{Dump}
use Rattle.agreement.proofs.Steps.{Is}
use Rattle.agreement.proofs.Placed.{Sort, expressions, commands, Placed}

abbrev pub role_of : Denoted → Role
role_of (value v) = a_value
role_of (procedure_body y t) = Procedure
role_of (function_body y t) = Function

-- a binding to a position at which a body is placed, with RET behind it
pub record BodyAt {T : Type 0} (σ : Sort T) (prog : List Word) (t : T) (sc : List Entry) (b : Bound) : Type 0 where
  pub start : ℕ
  pub node : ℕ
  pub is : b ≡ Body start
  pub placed : Placed σ prog t sc start
  pub returns : Is prog (σ.behind t start) Ret node

-- what a name denotes in the source, and what it is bound to in the machine
abbrev pub Match : List Word → List Entry → Denoted → Bound → Type 0
Match prog sc (value v) b = b ≡ Holds v
Match prog sc (procedure_body y t) b = BodyAt commands prog t (scope_inside y sc) b
Match prog sc (function_body y t) b = BodyAt expressions prog t (scope_inside y sc) b

pub data Corresponds (prog : List Word) : List Entry → List Binding → List Bound → Type 0 where
  nil : Corresponds prog [] [] []
  more : {sc : List Entry} {bs : List Binding} {m : List Bound} (x : ℕ) (th : Denoted) (b : Bound) →
      Match prog sc th b → Corresponds prog sc bs m → Corresponds prog (entry x (role_of th) ∷ sc) (binding x th ∷ bs) (b ∷ m)

-- how many nodes the bodies have that can be called
abbrev pub weight : Denoted → ℕ
weight (value v) = 0
weight (procedure_body y t) = size_c t
weight (function_body y t) = size_e t

abbrev pub bodies : List Binding → ℕ
bodies [] = 0
bodies (binding x th ∷ bs) = weight th + bodies bs

-- every location is among the first n cells
abbrev pub Inside : ℕ → Value → Type 0
Inside n (plain p) = Unit {0}
Inside n (Location l) = l < n

abbrev pub DenotesInside : ℕ → Denoted → Type 0
DenotesInside n (value v) = Inside n v
DenotesInside n (procedure_body y t) = Unit {0}
DenotesInside n (function_body y t) = Unit {0}

abbrev pub AllInside : ℕ → List Binding → Type 0
AllInside n [] = Unit {0}
AllInside n (binding x th ∷ bs) = DenotesInside n th × AllInside n bs

denotes_inside_more : (m n : ℕ) → m ≤ n → (th : Denoted) → DenotesInside m th → DenotesInside n th
denotes_inside_more m n h (value (plain p)) i = tt
denotes_inside_more m n h (value (Location l)) i = omega arith
denotes_inside_more m n h (procedure_body y t) i = tt
denotes_inside_more m n h (function_body y t) i = tt

pub all_inside_more : (m n : ℕ) → m ≤ n → (bs : List Binding) → AllInside m bs → AllInside n bs
all_inside_more m n h [] i = tt
all_inside_more m n h (binding x th ∷ bs) i = (denotes_inside_more m n h th i.0, all_inside_more m n h bs i.1)

-- what a node sees
pub record Scene (prog : List Word) : Type 0 where
  pub scope : List Entry
  pub bindings : List Binding
  pub environment : List Bound
  pub corresponds : Corresponds prog scope bindings environment

-- what waits in the machine below a node's own work: values, the number of bindings in use, and the dump
pub record Waiting : Type 0 where
  pub values : List Value
  pub used : ℕ
  pub dump : List Dump

abbrev pub on : Value → Waiting → Waiting
on v K = record { values = v ∷ K.values; used = K.used; dump = K.dump }

-- at the start of a tree of z nodes: every location is of a cell, no table holds more than r, and r with the nodes of the tree and
-- of the bodies that it can call is within the room
pub record Fits (room : ℕ) (bs : List Binding) (K : Waiting) (w : World) (r z : ℕ) : Type 0 where
  pub inside : AllInside (length w.cells) bs
  pub values : length K.values ≤ r
  pub used : K.used ≤ r
  pub dump : length K.dump ≤ r
  pub cells : length w.cells ≤ r
  pub enough : r + z + bodies bs ≤ room

-- a part of z₁ nodes, later, with as many cells; and the same with one more value that waits
pub fits_part : {room : ℕ} {bs : List Binding} {K : Waiting} {w : World} {r z : ℕ} (w₁ : World) (z₁ : ℕ) →
    Fits room bs K w r z → length w₁.cells ≡ length w.cells → z₁ ≤ z → Fits room bs K w₁ r z₁
fits_part {bs = bs} w₁ z₁ f e h =
    record { inside = all_inside_more _ _ (omega arith) bs f.inside; values = f.values; used = f.used; dump = f.dump; cells = omega arith; enough = omega arith }

pub fits_on : {room : ℕ} {bs : List Binding} {K : Waiting} {w : World} {r z : ℕ} (w₁ : World) (z₁ : ℕ) (v : Value) →
    Fits room bs K w r z → length w₁.cells ≡ length w.cells → z₁ < z → Fits room bs (on v K) w₁ (suc r) z₁
fits_on {bs = bs} {K} w₁ z₁ v f e h =
    record { inside = all_inside_more _ _ (omega arith) bs f.inside; values = omega arith; used = omega arith; dump = omega arith; cells = omega arith; enough = omega arith }
