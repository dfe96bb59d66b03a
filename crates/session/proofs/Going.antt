-- Whatever is called: the sequencer stays at the take that goes on. So every history of calls that do what they do by
-- themselves keeps the law of takes, and its reports are true.
use Rattle.std.proofs.Common.{◌≡◌, ℕ, ◌+◌, ◌/◌, ◌≤◌, false, List, [], ◌∷◌, length, is_some, Some, None, Ok, Err, Option, sym, refl, ap, ◌∙◌, subst, arith}
use Rattle.std.specs.List.{AllByRecursion}
use Rattle.std.proofs.ByRecursion.{All-append}
use Rattle.vocabulary.specs.declared.refusal.Cause.TheVariants.{NoProgram}
use Rattle.vocabulary.specs.declared.refusal.Refusal.{Refusal}
use Rattle.vocabulary.specs.Refusals.{Verdict, unless}
use Rattle.vocabulary.specs.World.{Rules}
use Rattle.language.specs.Reading.{tree_of}
use Rattle.language.specs.Table.{nodes_of}
use Rattle.language.specs.Translation.{program}
use Rattle.language.specs.Tree.{size_c}
use Rattle.language.specs.Verdicts.{shape_verdict, table_verdict}
use Rattle.language.proofs.Accepted.{well_formed}
use Rattle.language.proofs.Filling.{length-nodes}
use Rattle.language.proofs.Sizes.{root-size}
use Rattle.language.proofs.Verdicts.{both_accept}
use Rattle.machine.specs.Machine.{iterate, taken, start}
use Rattle.machine.specs.State.{Ports}
use Rattle.sheet.specs.Faithful.{program_of}
use Rattle.sheet.specs.Sheets.{open_verdict, table_part}
use Rattle.agreement.specs.Agreement.{Agreement}
use Rattle.agreement.proofs.Steps.{iterate_add}
use Rattle.sequencer.specs.Calls.{program_verdict, run_verdict, told, state_of, Stepped}
use Rattle.sequencer.specs.Model.{Model, begun, rewound, code_of}
use Rattle.session.specs.declared.Call.{Call}
use Rattle.session.specs.declared.Call.TheVariants.{Load, Open, Rewind, Run, Report}
use Rattle.session.specs.declared.Answer.{Answer}
use Rattle.session.specs.declared.Answer.TheVariants.{Done, Told, Refused}
use Rattle.session.specs.Acting.{Scene, scene, Decided, Acted}
use Rattle.session.specs.History.{Moment, Chained, OneByOne, Event, event, event_of, Take, opening, granting, lasting, onward, listed, closed, next, takes_from, TrueOf, TrueFrom}
use Rattle.session.specs.History.Event.{begins, begins_again, grants, reports, refused}
use Rattle.session.specs.Law.{world_of, Law}
use Rattle.session.proofs.Grants.{taken_add}
use Rattle.session.proofs.Lawful.{At, law}

-- the take that goes on, with feed and strip as they are now; before the first, there is no program
abbrev pub Going : Rules → Option Take → Model → Ports → Type 0
Going R None m o = m.program ≡ None
Going R (Some t) m o = (t.stop ≡ o) × At R t m

-- the same after an event; and if that is a report, it is true
pub record Goes (R : Rules) (current : Option Take) (e : Event) (before : Ports) (m : Model) (after : Ports) : Type 0 where
  pub on : Going R (onward e before after current) m after
  pub truly : TrueOf e current

-- where there is no program, nothing is accepted that wants one
no_program : (m : Model) → m.program ≡ None → program_verdict m ≡ Ok tt → ⊥
no_program m e h =
    let f : unless false NoProgram 0 ≡ Ok tt = subst (λ p. unless (is_some p) NoProgram 0 ≡ Ok tt) e h in
    let z : ◌≡◌ {A = ℕ} 0 1 = cc in omega arith

refused_is : (call : Call) (e : Refusal) → event_of call (Refused e) ≡ refused
refused_is (Load table) e = refl
refused_is (Open sheet) e = refl
refused_is Rewind e = refl
refused_is (Run fuel) e = refl
refused_is Report e = refl

shape_ok : (table : List ℕ) → table_verdict table ≡ Ok tt → shape_verdict (nodes_of table) ≡ Ok tt
shape_ok table e = (both_accept _ _ (both_accept _ _ e).1).0

module _ (R : Rules) (limit : 512 ≤ R.limit) where
  -- the tree of an accepted table is within the maximum
  small : (table : List ℕ) → table_verdict table ≡ Ok tt → size_c (tree_of (nodes_of table)) ≤ R.limit
  small table e =
      let size : size_c (tree_of (nodes_of table)) ≡ length (nodes_of table) = root-size (nodes_of table) (shape_ok table e) in
      let count = length-nodes table (length table / 8) in
      let most = (well_formed table e).most in
      omega arith

  -- a take begins at an accepted table
  at_table : (table : List ℕ) → table_verdict table ≡ Ok tt → (o : Ports) → At R (opening o o (tree_of (nodes_of table))) (begun (program_of table))
  unfolding taken
  at_table table e o = record {
    named = (well_formed table e).names;
    small = small table e;
    code = refl;
    told = refl;
    moved = refl;
    steps = refl;
  }

  at_again : (t : Take) (m : Model) → At R t m → (o : Ports) → At R (opening o o t.tree) (rewound m)
  unfolding taken
  at_again t m at o = record { named = at.named; small = at.small; code = at.code; told = refl; moved = refl; steps = refl }

  -- fuel is added to fuel
  at_granted : (t : Take) (fuel : ℕ) (m m' : Model) (o : Ports) → Stepped R fuel m m' t.stop o → At R t m → At R (granting fuel (told m') o t) m'
  at_granted t fuel m m' o s at =
      let prog = program t.tree in
      let from = start (world_of t.start) in
      record {
        named = at.named;
        small = at.small;
        code = ap code_of s.program ∙ at.code;
        told = refl;
        moved =
            s.moved ∙ ap (λ c. iterate R c fuel (state_of m t.stop)) at.code
            ∙ ap (iterate R prog fuel) at.moved ∙ sym (iterate_add R prog t.granted fuel from);
        steps =
            s.steps ∙ ap (λ c. m.steps + taken R c fuel (state_of m t.stop)) at.code
            ∙ ap (λ x. m.steps + taken R prog fuel x) at.moved
            ∙ ap (λ n. n + taken R prog fuel (iterate R prog t.granted from)) at.steps
            ∙ sym (taken_add R prog t.granted fuel from);
      }

  -- nothing changes
  stays : (current : Option Take) (m : Model) (o : Ports) → Going R current m o → Going R (onward refused o o current) m o
  stays None m o g = g
  stays (Some t) m o g = (refl, subst (λ s. At R (lasting s t) m) g.0 g.1)

  goes-begun : (current : Option Take) (table : List ℕ) (m' : Model) (o o' : Ports) →
      table_verdict table ≡ Ok tt → scene m' o' ≡ scene (begun (program_of table)) o → Goes R current (begins (tree_of (nodes_of table))) o m' o'
  goes-begun current table m' o o' e s =
      subst (λ (z : Scene). Goes R current (begins (tree_of (nodes_of table))) o z.sequencer z.ports) (sym s)
      (record { on = (refl, at_table table e o); truly = tt })

  goes_again : (current : Option Take) (m m' : Model) (o o' : Ports) → Going R current m o →
      program_verdict m ≡ Ok tt → scene m' o' ≡ scene (rewound m) o → Goes R current begins_again o m' o'
  goes_again None m m' o o' g v s = absurd (no_program m g v)
  goes_again (Some t) m m' o o' g v s =
      subst (λ (z : Scene). Goes R (Some t) begins_again o z.sequencer z.ports) (sym s)
      (record { on = (refl, at_again t m g.1 o); truly = tt })

  goes-granted : (current : Option Take) (fuel : ℕ) (m m' : Model) (o o' : Ports) → Going R current m o →
      program_verdict m ≡ Ok tt → Stepped R fuel m m' o o' → Goes R current (grants fuel (told m')) o m' o'
  goes-granted None fuel m m' o o' g v s = absurd (no_program m g v)
  goes-granted (Some t) fuel m m' o o' g v s =
      record { on = (refl, at_granted t fuel m m' o' (subst (λ x. Stepped R fuel m m' x o') (sym g.0) s) g.1); truly = tt }

  goes-reported : (current : Option Take) (m m' : Model) (o o' : Ports) → Going R current m o →
      program_verdict m ≡ Ok tt → scene m' o' ≡ scene m o → Goes R current (reports (told m)) o m' o'
  goes-reported None m m' o o' g v s = absurd (no_program m g v)
  goes-reported (Some t) m m' o o' g v s =
      subst (λ (z : Scene). Goes R (Some t) (reports (told m)) o z.sequencer z.ports) (sym s)
      (record { on = stays (Some t) m o g; truly = (t, refl, sym g.1.told) })

  -- one call, by its verdict: a refused one changes nothing, and one that is accepted with an answer does what its event says
  module _ (current : Option Take) (call : Call) (answer : Answer) (m m' : Model) (o o' : Ports) (g : Going R current m o) where
    by_verdict : (v : Verdict) (r : Answer) (P : Type 0) → Decided v (scene m o) answer (scene m' o') ((answer ≡ r) × P) →
        (v ≡ Ok tt → P → Goes R current (event_of call r) o m' o') → Goes R current (event_of call answer) o m' o'
    by_verdict (Ok u) r P d accepted = subst (λ x. Goes R current (event_of call x) o m' o') (sym d.0) (accepted refl d.1)
    by_verdict (Err e) r P d accepted =
        subst (λ v. Goes R current v o m' o') (sym (ap (event_of call) d.0 ∙ refused_is call e))
        (subst (λ (z : Scene). Goes R current refused o z.sequencer z.ports) (sym d.1) (record { on = stays current m o g; truly = tt }))

  goes : (current : Option Take) (call : Call) (answer : Answer) (m m' : Model) (o o' : Ports) → Going R current m o →
      Acted R call (scene m o) answer (scene m' o') → Goes R current (event_of call answer) o m' o'
  goes current (Load table) answer m m' o o' g a =
      by_verdict current (Load table) answer m m' o o' g (table_verdict table.now) Done _ a
      (λ v s. goes-begun current table.now m' o o' v s)
  goes current (Open sheet) answer m m' o o' g a =
      by_verdict current (Open sheet) answer m m' o o' g (open_verdict sheet.now) Done _ a
      (λ v s. goes-begun current (table_part sheet.now) m' o o' (both_accept _ _ (both_accept _ _ v).1).0 s)
  goes current Rewind answer m m' o o' g a =
      by_verdict current Rewind answer m m' o o' g (program_verdict m) Done _ a
      (λ v s. goes_again current m m' o o' g v s)
  goes current (Run fuel) answer m m' o o' g a =
      by_verdict current (Run fuel) answer m m' o o' g (run_verdict m fuel) (Told (told m')) _ a
      (λ v s. goes-granted current fuel m m' o o' g (both_accept _ _ v).0 s)
  goes current Report answer m m' o o' g a =
      by_verdict current Report answer m m' o o' g (program_verdict m) (Told (told m)) _ a
      (λ v s. goes-reported current m m' o o' g v s)

  module _ (agreement : Agreement) where
    law_on : (current : Option Take) (m : Model) (o : Ports) → Going R current m o → AllByRecursion (Law R) (listed current)
    law_on None m o g = tt
    law_on (Some t) m o g =
        (law R t m (agreement R t.tree (world_of t.start) g.1.named g.1.small refl) g.1, tt)

    law-closed : (e : Event) (current : Option Take) (m : Model) (o : Ports) → Going R current m o → AllByRecursion (Law R) (closed e current)
    law-closed (begins tree) current m o g = law_on current m o g
    law-closed begins_again current m o g = law_on current m o g
    law-closed (grants fuel r) current m o g = tt
    law-closed (reports r) current m o g = tt
    law-closed refused current m o g = tt

    pub keeps : (ms : List Moment) (current : Option Take) (m last : Model) (o exit : Ports) → Going R current m o →
        Chained o ms exit → OneByOne R m ms last → AllByRecursion (Law R) (takes_from current ms) × TrueFrom current ms
    keeps [] current m last o exit g c h = (law_on current m o g, tt)
    keeps (x ∷ ms) current m last o exit g c h =
        let g' : Going R current m x.before = subst (Going R current m) (sym c.0) g in
        let s = goes current x.call x.answer m h.0 x.before x.after g' h.1 in
        let k = keeps ms (next current x) h.0 last x.after exit s.on c.1 h.2 in (
          All-append (Law R) (closed (event x) current) (takes_from (next current x) ms) (law-closed (event x) current m x.before g') k.0,
          (s.truly, k.1),
        )
