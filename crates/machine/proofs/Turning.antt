-- What the machine of lists does in the instructions that change the links of the tables, said of the lists that the tables
-- show before and after; and a step from its instruction.
use Rattle.std.proofs.Common.{◌≡◌, ℕ, suc, ◌<◌, ◌≤◌, true, false, ltb, List, ◌∷◌, length, reverse, Some, Option, Ok, Err, Result, refl, ap, ◌∙◌, arith}
use Rattle.std.proofs.lemmas.Bool.{lt-ltb, le-ltb}
use Rattle.vocabulary.specs.declared.table.TableFull.{TableFull}
use Rattle.vocabulary.specs.Appending.{Pushed}
use Rattle.vocabulary.specs.Tables.{found}
use Rattle.vocabulary.specs.declared.value.Plain.{Plain}
use Rattle.vocabulary.specs.declared.value.Value.{Value}
use Rattle.vocabulary.specs.declared.code.Word.{Word}
use Rattle.vocabulary.specs.World.{Rules}
use Rattle.machine.specs.declared.tables.Entry.{Entry}
use Rattle.machine.specs.declared.tables.Frame.{Frame}
use Rattle.machine.specs.declared.tables.Stop.{Stop}
use Rattle.machine.specs.declared.tables.Stop.TheVariants.{Ended, Stuck}
use Rattle.machine.specs.Instructions.{guard, bind_as, dumped, goto}
use Rattle.machine.specs.Machine.{perform, step}
use Rattle.machine.specs.State.{Core, core, Turn, Ports, noted, joined}
use Rattle.machine.specs.State.Moved.{moved}
use Rattle.machine.specs.State.State.{running}
use Rattle.machine.specs.State.Dump.{frame}
use Rattle.machine.specs.State.Turn.{goes, stuck}
use Rattle.machine.specs.Seen.{after, stands, status_of}
use Rattle.machine.specs.Links.{reach, chain, chains, nested}
use Rattle.machine.proofs.Linking.{Grown, chains-length, chains_more, nested-enter, nested_env}

-- a binding is added; the rest stays
pub bind_goes : (at : ℕ) (vals : List Value) (es ds : List Entry) (fs : List Frame) (cells : List Plain) (c : Entry) (e : ℕ) → length es < 512 → Grown es ds fs c e →
    goes (core at vals (chain (reverse ds) e) (length ds) (chains (reverse ds) fs) cells) ≡ bind_as 512 c.what (core at vals (chain (reverse es) (reach c.below)) (length es) (chains (reverse es) fs) cells)
bind_goes at vals es ds fs cells c e h g =
    let l : ltb (length es) 512 ≡ true = lt-ltb (length es) 512 h in
    rw (g.environment, g.counts, g.dumps, l)

-- a frame is put on the dump, or there is no room for it
pub entered : (n q : ℕ) (e : Option ℕ) (fs gs : List Frame) (f : Frame) (r : Result (Unit {0}) TableFull) → Pushed 512 fs gs f r → f ≡ record { env = e; bound = n; other = q } → nested n (reach e) fs ≡ true → nested n (reach e) gs ≡ true
entered n q e fs gs f (Ok u) p z l =
    let s : gs ≡ record { env = e; bound = n; other = q } ∷ fs = rw (← z) p.1 in
    rw s (nested-enter n (reach e) (record { env = e; bound = n; other = q }) fs (omega arith) (nested_env n (reach e) fs l) l)
entered n q e fs gs f (Err x) p z l = rw p.1 l

pub dump_goes : (at : ℕ) (vals : List Value) (n q : ℕ) (e : Option ℕ) (t : List Entry) (fs gs : List Frame) (f : Frame) (cells : List Plain) → length fs < 512 → gs ≡ f ∷ fs → f ≡ record { env = e; bound = n; other = q } →
    goes (core at vals (chain t (reach e)) n (chains t gs) cells) ≡ guard (ltb (length (chains t fs)) 512) (goes (dumped q (core at vals (chain t (reach e)) n (chains t fs) cells)))
dump_goes at vals n q e t fs gs f cells h p z =
    let l : ltb (length (chains t fs)) 512 ≡ true = rw chains-length (lt-ltb (length fs) 512 h) in
    let s : chains t gs ≡ frame (chain t (reach e)) n q ∷ chains t fs = chains_more t fs gs (record { env = e; bound = n; other = q }) (p ∙ ap (λ x. x ∷ fs) z) in
    rw (s, l)

pub dump_full : (t : List Entry) (fs : List Frame) (k : Turn) → 512 ≤ length fs → stuck ≡ guard (ltb (length (chains t fs)) 512) k
dump_full t fs k h =
    let l : ltb (length (chains t fs)) 512 ≡ false = rw chains-length (le-ltb (length fs) 512 h) in
    rw l

-- a stop at a node

stopped_is : (s : Stop) (node : ℕ) (d : Core) (u : Ports) → stands (status_of s node) d u ≡ noted node (moved (after (Err s) d) u)
stopped_is (Ended e) node d u = refl
stopped_is Stuck node d u = refl

pub step_stops : (R : Rules) (code : List Word) (x : Word) (k : ℕ) (s : Stop) (c d : Core) (w u : Ports) → found code c.position ≡ Some x → k ≡ suc c.position → moved (after (Err s) d) u ≡ perform R x.instruction (goto k c) w →
    stands (status_of s x.node) d u ≡ step R code (running (joined c w))
step_stops R code x k s c d w u f e m = rw f (stopped_is s x.node d u ∙ ap (noted x.node) (m ∙ ap (λ n. perform R x.instruction (goto n c) w) e))
