-- A step takes from the front of the feed and adds to the end of the strip, and does nothing else to them: instruction by instruction,
-- of which only READ and PUT touch them at all. So what a run has done is the first part of what a longer run does.
use Rattle.std.proofs.Common.{◌≡◌, ℕ, zero, suc, Bool, true, false, leb, List, [], ◌∷◌, ◌++◌, Some, None, Option, sym, refl, ap, ◌∙◌, append_assoc, append-nil}
use Rattle.vocabulary.specs.declared.code.Instruction.{Instruction}
use Rattle.vocabulary.specs.declared.code.Instruction.TheVariants.{Num, Truth as TruthWord, Read, Look, Deref, Op, JumpFalse, Jump, Call, Ret, IsLoc, Store, Put, Enter, Leave, Bind, New, Clos, Halt}
use Rattle.vocabulary.specs.declared.code.Word.{Word}
use Rattle.vocabulary.specs.declared.end.End.TheVariants.{Empty}
use Rattle.vocabulary.specs.declared.item.Item.{Item}
use Rattle.vocabulary.specs.declared.value.Plain.{Plain}
use Rattle.vocabulary.specs.declared.value.Value.{Value}
use Rattle.vocabulary.specs.declared.value.Value.TheVariants.{Plain as plain, Location}
use Rattle.vocabulary.specs.Tables.{found}
use Rattle.vocabulary.specs.World.{World, Rules, with_feed}
use Rattle.machine.specs.State.{Config, Core, ports, State, Turn, noted, fed_in, spent_in, ahead}
use Rattle.machine.specs.State.Moved.{moved}
use Rattle.machine.specs.State.State.{running, halted, broken}
use Rattle.machine.specs.State.Turn.{goes, ends, stuck}
use Rattle.machine.specs.Instructions.{take_item, read, put, put_if}
use Rattle.machine.specs.Machine.{exec, obey, step, iterate}
use Rattle.agreement.specs.Agreement.{Did, FirstPart}

-- some items were taken and some values put
pub record Grew (u w : World) : Type 0 where
  pub items : List Item
  pub values : List Plain
  pub did : Did u w items values

pub grew_nothing : (w : World) → Grew w w
grew_nothing w = record { items = []; values = []; did = record { fed = refl; held = sym (append-nil w.strip) } }

-- what was done in two stretches
pub grew_first_part : (u v w : World) → Grew u v → Grew v w → FirstPart u v w
grew_first_part u v w f g = record {
  items = f.items;
  values = f.values;
  more_items = g.items;
  more_values = g.values;
  part = f.did;
  whole = record {
    fed = f.did.fed ∙ (ap (λ l. f.items ++ l) g.did.fed ∙ sym (append_assoc f.items g.items w.feed));
    held = g.did.held ∙ (ap (λ l. l ++ g.values) f.did.held ∙ append_assoc u.strip f.values g.values);
  };
}

grew_both : (u v w : World) → Grew u v → Grew v w → Grew u w
grew_both u v w f g = let p = grew_first_part u v w f g in record { items = _; values = _; did = p.whole }

-- a state later than u
abbrev pub Since : World → State → Type 0
Since u (running c) = Grew u c.world
Since u (halted e n w) = Grew u w
Since u broken = Unit {0}

-- a turn that leaves feed and strip as they are at a world w
same_ports : (u w : World) (nd : ℕ) (t : Turn) → Grew u w → Since u (noted nd (moved t (ports w.feed w.strip w.space)))
same_ports u w nd (goes k) g = record { items = g.items; values = g.values; did = record { fed = g.did.fed; held = g.did.held } }
same_ports u w nd (ends e cs) g = record { items = g.items; values = g.values; did = record { fed = g.did.fed; held = g.did.held } }
same_ports u w nd stuck g = tt

module _ (R : Rules) where
  by_read : (f : List Item) (nd : ℕ) (k : Core) (w : World) → w.feed ≡ f → Since w (noted nd (fed_in (read R.limit f k) (ports w.feed w.strip w.space)))
  by_read [] nd k w e =
      same_ports w (with_feed w []) nd (ends Empty k.cells) (record { items = []; values = []; did = record { fed = e; held = sym (append-nil w.strip) } })
  by_read (i ∷ f) nd k w e =
      same_ports w (with_feed w f) nd (take_item R.limit i k) (record { items = i ∷ []; values = []; did = record { fed = e; held = sym (append-nil w.strip) } })

  by_put : (vs : List Value) (nd : ℕ) (k : Core) (w : World) → Since w (noted nd (spent_in (put R.price vs k w.strip w.space) (ports w.feed w.strip w.space)))
  by_put [] nd k w = tt
  by_put (Location l ∷ vs) nd k w = tt
  by_put (plain p ∷ vs) nd k w = go (leb (R.price p) w.space)
    where
      go : (b : Bool) → Since w (noted nd (spent_in (put_if R.price b p vs k w.strip w.space) (ports w.feed w.strip w.space)))
      go true = record { items = []; values = p ∷ []; did = record { fed = refl; held = refl } }
      go false = same_ports w w nd (ends Empty k.cells) (grew_nothing w)

  by_exec : (i : Instruction) (nd : ℕ) (c : Config) → Since c.world (exec R i nd c)
  by_exec (Num z) nd c = same_ports c.world c.world nd _ (grew_nothing c.world)
  by_exec (TruthWord t) nd c = same_ports c.world c.world nd _ (grew_nothing c.world)
  by_exec Read nd c = by_read c.world.feed nd (ahead c) c.world refl
  by_exec (Look d) nd c = same_ports c.world c.world nd _ (grew_nothing c.world)
  by_exec Deref nd c = same_ports c.world c.world nd _ (grew_nothing c.world)
  by_exec (Op o) nd c = same_ports c.world c.world nd _ (grew_nothing c.world)
  by_exec (JumpFalse p) nd c = same_ports c.world c.world nd _ (grew_nothing c.world)
  by_exec (Jump p) nd c = grew_nothing c.world
  by_exec (Call d) nd c = same_ports c.world c.world nd _ (grew_nothing c.world)
  by_exec Ret nd c = same_ports c.world c.world nd _ (grew_nothing c.world)
  by_exec IsLoc nd c = same_ports c.world c.world nd _ (grew_nothing c.world)
  by_exec Store nd c = same_ports c.world c.world nd _ (grew_nothing c.world)
  by_exec Put nd c = by_put c.values nd (ahead c) c.world
  by_exec Enter nd c = same_ports c.world c.world nd _ (grew_nothing c.world)
  by_exec Leave nd c = same_ports c.world c.world nd _ (grew_nothing c.world)
  by_exec Bind nd c = same_ports c.world c.world nd _ (grew_nothing c.world)
  by_exec New nd c = same_ports c.world c.world nd _ (grew_nothing c.world)
  by_exec (Clos p) nd c = same_ports c.world c.world nd _ (grew_nothing c.world)
  by_exec Halt nd c = grew_nothing c.world

  by_obey : (o : Option Word) (c : Config) → Since c.world (obey R o c)
  by_obey None c = tt
  by_obey (Some x) c = by_exec x.instruction x.node c

  since-both : (u v : World) (y : State) → Grew u v → Since v y → Since u y
  since-both u v (running c) f g = grew_both u v c.world f g
  since-both u v (halted e n w) f g = grew_both u v w f g
  since-both u v broken f g = tt

  by_step : (u : World) (prog : List Word) (x : State) → Since u x → Since u (step R prog x)
  by_step u prog (running c) g = since-both u c.world _ g (by_obey (found prog c.position) c)
  by_step u prog (halted e n w) g = g
  by_step u prog broken g = tt

  -- however many steps are made
  pub grows : (u : World) (prog : List Word) (n : ℕ) (x : State) → Since u x → Since u (iterate R prog n x)
  grows u prog zero x g = g
  grows u prog (suc n) x g = grows u prog n (step R prog x) (by_step u prog x g)
