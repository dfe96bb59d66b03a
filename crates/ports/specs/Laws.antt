-- What the ghost members of each feed and strip have to show.
use Rattle.std.specs.Prelude.{◌≡◌, ℕ, zero, suc, ◌+◌, ◌-◌, ◌≤◌, List, [], ◌∷◌, ◌++◌, length, take, drop, ℤ, refl}
use Rattle.std.proofs.Common.{ap, sym, ◌∙◌, arith}
use Rattle.std.specs.Borrow.{MutBor}
use Rattle.std.proofs.lemmas.List.{length-append, length-drop, length-take-le, drop-drop, drop_at, take-append-drop}
use Rattle.vocabulary.specs.declared.value.Plain.{Plain}
use Rattle.ports.specs.declared.trace.Record.{Record}
use Rattle.ports.specs.Feeds.{LawfulItem, Lawful}
use Rattle.ports.specs.Kept.{overlay, Kept}
use Rattle.ports.specs.Lines.{line_length}
use Rattle.ports.specs.Ramps.{rungs, ramp_items}
use Rattle.ports.specs.Records.{one}
use Rattle.ports.specs.Traces.{coded, items_of}

coded-lawful : (k : ℕ) (z : ℤ) → LawfulItem (coded k z)
coded-lawful zero z = tt
coded-lawful (suc k) z = omega arith

-- a trace has no fault of code 0
pub items-lawful : (rs : List Record) → Lawful (items_of rs)
items-lawful [] = tt
items-lawful (r ∷ rs) = (coded-lawful r.code r.reading, items-lawful rs)

rungs-lawful : (start step : ℤ) (k n : ℕ) → Lawful (rungs start step k n)
rungs-lawful start step k zero = tt
rungs-lawful start step k (suc n) = (tt, rungs-lawful start step (suc k) n)

-- nor has a ramp
pub ramp_lawful : (start step : ℤ) (count : ℕ) → Lawful (ramp_items start step count)
ramp_lawful start step count = rungs-lawful start step 0 count

-- a record strip has no free value
pub one_costs : (value : Plain) → 1 ≤ one value
one_costs value = omega arith

-- nor has a text strip: each line has an end
pub line_costs : (value : Plain) → 1 ≤ line_length value
line_costs value = rw length-append (omega arith)

-- nothing done keeps the memory
pub kept-stays : {X : Type 0} (memory : MutBor (List X)) (used : ℕ) (written : List X) → used ≤ length memory.now → written ≡ take used memory.now → Kept memory memory written written
kept-stays memory used written h e =
    let n : length written ≡ used = ap length e ∙ length-take-le used memory.now h in
    record {
      same = refl;
      grown = omega arith;
      within = omega arith;
      memory = sym (ap (λ w. w ++ drop (length written) memory.now) e ∙ ap (λ k. take used memory.now ++ drop k memory.now) n ∙ take-append-drop used memory.now);
    }

drop_beyond : {X : Type 0} (before after memory later : List X) → length before ≤ length after → later ≡ overlay before memory → drop (length after) later ≡ drop (length after) memory
drop_beyond before after memory later grown e =
    let k = length after - length before in
    let s : length after ≡ length before + k = omega arith in
    ap (λ n. drop n later) s
    ∙ sym (drop-drop k (length before) later)
    ∙ ap (λ xs. drop k (drop (length before) xs)) e
    ∙ ap (drop k) (drop_at before (drop (length before) memory) (length before) refl)
    ∙ drop-drop k (length before) memory
    ∙ sym (ap (λ n. drop n memory) s)

length-overlay : {X : Type 0} (written memory : List X) → length written ≤ length memory → length (overlay written memory) ≡ length memory
length-overlay written memory h =
    let d = length-drop (length written) memory in
    length-append written (drop (length written) memory) ∙ (omega arith)

-- what is kept twice in a row is kept
pub kept_goes : {X : Type 0} (first second third : MutBor (List X)) (a b c : List X) → Kept first second a b → Kept second third b c → Kept first third a c
kept_goes first second third a b c h k =
    let size = ap length h.memory ∙ length-overlay b first.now h.within in
    record {
      same = k.same ∙ h.same;
      grown = omega arith;
      within = omega arith;
      memory = k.memory ∙ ap (λ xs. c ++ xs) (drop_beyond b c first.now second.now k.grown h.memory);
    }
