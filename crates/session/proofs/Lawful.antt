-- The law of a take, from one fact: the state is where as many steps as were granted lead from the take's start. That a take
-- ends where its tree's meaning ends is then the agreement of trees and code.
use Rattle.std.proofs.Common.{◌≡◌, ℕ, ◌+◌, ◌-◌, ◌*◌, ◌≤◌, [], Some, None, sym, refl, ap, ◌∙◌, arith}
use Rattle.vocabulary.specs.declared.end.End.{End}
use Rattle.vocabulary.specs.World.{World, world, Rules}
use Rattle.language.specs.Meaning.{Course}
use Rattle.language.specs.Meaning.Course.{finished, unfinished, meaningless}
use Rattle.language.specs.Names.{NamedC}
use Rattle.language.specs.Translation.{program}
use Rattle.language.specs.Tree.{size_c}
use Rattle.machine.specs.declared.tables.Status.{Status}
use Rattle.machine.specs.declared.tables.Status.TheVariants.{Running, Halted, Broken}
use Rattle.machine.specs.Machine.{iterate, taken, start}
use Rattle.machine.specs.Seen.{stands}
use Rattle.machine.specs.State.{Core, Ports, State, joined}
use Rattle.machine.specs.State.State.{running, halted}
use Rattle.agreement.specs.Agreement.{FirstPart, FirstPartOf, Agrees}
use Rattle.agreement.proofs.Steps.{onward, halted-stays}
use Rattle.sequencer.specs.declared.report.Report.{Report}
use Rattle.sequencer.specs.declared.report.Stop.{Stop}
use Rattle.sequencer.specs.Calls.{state_of, told}
use Rattle.sequencer.specs.Model.{Model, code_of}
use Rattle.sequencer.specs.Reports.{report_of}
use Rattle.session.specs.History.{Take}
use Rattle.session.specs.Law.{world_of, ports_of, meaning_of, Law}
use Rattle.session.proofs.Grants.{taken_all}

-- a take, and the sequencer that is at it
pub record At (R : Rules) (t : Take) (m : Model) : Type 0 where
  pub named : NamedC t.tree []
  pub small : size_c t.tree ≤ R.limit
  pub code : code_of m.program ≡ program t.tree
  pub told : t.told ≡ told m
  pub moved : state_of m t.stop ≡ iterate R (program t.tree) t.granted (start (world_of t.start))
  pub steps : m.steps ≡ taken R (program t.tree) t.granted (start (world_of t.start))

-- reports and states, by how the machine stands
steps-told : (s : Status) (n : ℕ) → (report_of s n).steps ≡ n
steps-told Running n = refl
steps-told (Halted e k) n = refl
steps-told Broken n = refl

stop-told : (s : Status) (n : ℕ) (x : Stop) → (report_of s n).stop ≡ Some x → s ≡ Halted x.end x.node
stop-told Running n x e = let z : ◌≡◌ {A = ℕ} 0 1 = cc in absurd (omega arith)
stop-told (Halted end node) n x e = cc
stop-told Broken n x e = let z : ◌≡◌ {A = ℕ} 0 1 = cc in absurd (omega arith)

no_stop-told : (s : Status) (n : ℕ) → (report_of s n).stop ≡ None → (s ≡ Broken → ⊥) → s ≡ Running
no_stop-told Running n e h = refl
no_stop-told (Halted end node) n e h = let z : ◌≡◌ {A = ℕ} 0 1 = cc in absurd (omega arith)
no_stop-told Broken n e h = absurd (h refl)

halted-stands : (s : Status) (k : Core) (o : Ports) (e : End) (n : ℕ) (w : World) → stands s k o ≡ halted e n w → s ≡ Halted e n
halted-stands Running k o e n w h = let z : ◌≡◌ {A = ℕ} 0 1 = cc in absurd (omega arith)
halted-stands (Halted f j) k o e n w h = cc
halted-stands Broken k o e n w h = let z : ◌≡◌ {A = ℕ} 0 1 = cc in absurd (omega arith)

-- feed and strip are all that a first part speaks of
of_ports : (before : World) (k : Core) (o : Ports) (later : World) → FirstPart before (joined k o).world later → FirstPart before (world_of o) later
of_ports before k o later p = record {
  items = p.items;
  values = p.values;
  more_items = p.more_items;
  more_values = p.more_values;
  part = record { fed = p.part.fed; held = p.part.held };
  whole = p.whole;
}

first_part : (before : World) (k : Core) (o : Ports) (c : Course) → FirstPartOf before (joined k o).world c → FirstPartOf before (world_of o) c
first_part before k o (finished e n w b) f = of_ports before k o w f
first_part before k o (unfinished w) f = of_ports before k o w f
first_part before k o meaningless f = f

module _ (R : Rules) (t : Take) (m : Model) (agrees : Agrees R t.tree (world_of t.start)) (at : At R t m) where
  -- where the machine is after some number of steps
  abbrev state : ℕ → State
  state n = iterate R (program t.tree) n (start (world_of t.start))

  told-steps : t.told.steps ≡ m.steps
  told-steps = ap (λ (r : Report). r.steps) at.told ∙ steps-told m.status m.steps

  -- not ended: the machine runs, since it is never broken
  unbroken : m.status ≡ Broken → ⊥
  unbroken e = agrees.unbroken t.granted (sym at.moved ∙ ap (λ s. stands s m.core t.stop) e)

  still : t.told.stop ≡ None → state t.granted ≡ running (joined m.core t.stop)
  still h =
      sym at.moved
      ∙ ap (λ s. stands s m.core t.stop) (no_stop-told m.status m.steps (sym (ap (λ (r : Report). r.stop) at.told) ∙ h) unbroken)

  ends : (v : ℕ) (e : End) (n : ℕ) (w : World) → meaning_of R t v ≡ finished e n w 0 → 3 * v + 1 ≤ t.granted →
      (t.told.stop ≡ Some (record { end = e; node = n })) × (t.told.steps ≤ 3 * v + 1)
  ends v e n w h g =
      let there : state t.granted ≡ halted e n w =
      onward R (program t.tree) (3 * v + 1) (t.granted - (3 * v + 1)) t.granted (start (world_of t.start)) (halted e n w) (agrees.soon v e n w h) (omega arith)
      ∙ halted-stays R (program t.tree) (t.granted - (3 * v + 1)) e n w in
      let s : m.status ≡ Halted e n = halted-stands m.status m.core t.stop e n w (at.moved ∙ there) in
      let few = agrees.steps v e n w h t.granted in
      let k = told-steps in
      let j = at.steps in
      (ap (λ (r : Report). r.stop) at.told ∙ ap (λ x. (report_of x m.steps).stop) s, omega arith)

  alike : (s : Stop) → t.told.stop ≡ Some s →
      (v : ℕ) × (w : World) × (meaning_of R t v ≡ finished s.end s.node w 0) × (t.stop ≡ ports_of w)
  alike s h =
      let e = stop-told m.status m.steps s (sym (ap (λ (r : Report). r.stop) at.told) ∙ h) in
      let w : World = world m.core.cells t.stop.feed t.stop.strip t.stop.space in
      let a = agrees.alike t.granted s.end s.node w (sym at.moved ∙ ap (λ x. stands x m.core t.stop) e) in
      (a.0, w, a.1, refl)

  paid : t.told.stop ≡ None → t.told.steps ≡ t.granted
  paid h = told-steps ∙ (at.steps ∙ taken_all R (program t.tree) t.granted (start (world_of t.start)) (joined m.core t.stop) (still h))

  first : t.told.stop ≡ None → (k : ℕ) × FirstPartOf (world_of t.start) (world_of t.stop) (meaning_of R t k)
  first h =
      let f = agrees.first t.granted (joined m.core t.stop) (still h) in
      (f.0, first_part (world_of t.start) m.core t.stop (meaning_of R t f.0) f.1)

  pub law : Law R t
  law = record {
    ends = ends;
    alike = alike;
    paid = paid;
    left = λ h. (joined m.core t.stop, ap state (paid h) ∙ still h, refl);
    first = first;
  }
