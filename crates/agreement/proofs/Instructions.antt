-- What an instruction does where its table has room, and that a place among the cells holds a value. These are the only proofs that
-- look into the instructions that can find a table full.
use Rattle.std.proofs.Common.{◌≡◌, ℕ, zero, suc, ◌<◌, Bool, true, false, T, ltb, List, [], ◌∷◌, length, drop, Some, refl, ap, ◌∙◌, le_of_suc-le-suc, not-suc-le-zero, lt→ltb}
use Rattle.vocabulary.specs.declared.value.Value.{Value}
use Rattle.vocabulary.specs.Tables.{found}
use Rattle.machine.specs.declared.tables.Bound.{Bound}
use Rattle.machine.specs.declared.tables.Bound.TheVariants.{Holds, Body}
use Rattle.machine.specs.State.{Core, core, Ports, Turn, noted}
use Rattle.machine.specs.State.Dump.{frame}
use Rattle.machine.specs.State.Moved.{moved}
use Rattle.machine.specs.State.Turn.{goes}
use Rattle.machine.specs.Instructions.{guard, with_stack, push, bind_as, invoke}

-- two turns that are one leave one state
pub noting : (nd : ℕ) (o : Ports) {t u : Turn} → t ≡ u → noted nd (moved t o) ≡ noted nd (moved u o)
noting nd o e = ap (λ t. noted nd (moved t o)) e

pub with_room : (m n : ℕ) (t : Turn) → m < n → guard (ltb m n) t ≡ t
with_room m n t h = opened (ltb m n) (lt→ltb m n h)
  where
    opened : (b : Bool) → T b → guard b t ≡ t
    opened true y = refl
    opened false y = absurd y

pub push_with_room : (limit : ℕ) (v : Value) (k : Core) → length k.values < limit → push limit v k ≡ goes (with_stack (v ∷ k.values) k)
push_with_room limit v k h = with_room (length k.values) limit _ h

pub bind_with_room : (limit : ℕ) (e : Bound) (k : Core) → k.bindings < limit →
    bind_as limit e k ≡ goes (core k.position k.values (e ∷ k.environment) (suc k.bindings) k.dump k.cells)
bind_with_room limit e k h = with_room k.bindings limit _ h

-- CALL of a body at position p, with room on the dump and for the argument
pub call_with_room : (limit : ℕ) (v : Value) (d p : ℕ) (k : Core) → found k.environment d ≡ Some (Body p) → length k.dump < limit → k.bindings < limit →
    invoke limit v (found k.environment d) d k ≡ goes (core p k.values (Holds v ∷ drop (suc d) k.environment) (suc k.bindings)
    (frame k.environment k.bindings k.position ∷ k.dump) k.cells)
call_with_room limit v d p k e hd hb =
    ap (λ o. invoke limit v o d k) e ∙ (with_room (length k.dump) limit _ hd ∙ with_room k.bindings limit _ hb)

pub found_inside : {A : Type 0} (l : List A) (i : ℕ) → i < length l → (a : A) × (found l i ≡ Some a)
found_inside [] i h = absurd (not-suc-le-zero h)
found_inside (x ∷ l) zero h = (x, refl)
found_inside (x ∷ l) (suc i) h = found_inside l i (le_of_suc-le-suc h)
