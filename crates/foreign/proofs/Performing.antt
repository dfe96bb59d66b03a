-- From the sequencer after all grants to what a call says of its take.
use Rattle.std.proofs.Common.{◌≡◌, ℕ, ◌/◌, ◌≤◌, leb, List, length, is_some, Ok, Result, sym, refl, ap, ◌∙◌, subst, arith}
use Rattle.std.specs.Result.{result_and}
use Rattle.std.proofs.lemmas.Bool.{le-leb}
use Rattle.vocabulary.specs.declared.refusal.Cause.TheVariants.{NoProgram, Fuel}
use Rattle.vocabulary.specs.declared.refusal.Refusal.{Refusal}
use Rattle.vocabulary.specs.Refusals.{unless}
use Rattle.vocabulary.specs.World.{Rules}
use Rattle.language.specs.Table.{nodes_of}
use Rattle.language.specs.Translation.{program}
use Rattle.language.specs.Tree.{size_c}
use Rattle.language.specs.Verdicts.{shape_verdict, table_verdict}
use Rattle.language.proofs.Accepted.{well_formed}
use Rattle.language.proofs.Filling.{length-nodes}
use Rattle.language.proofs.Sizes.{root-size}
use Rattle.language.proofs.Verdicts.{both_accept}
use Rattle.machine.specs.declared.tables.Status.{Status}
use Rattle.machine.specs.declared.tables.Status.TheVariants.{Running, Halted, Broken}
use Rattle.machine.specs.Machine.{iterate, taken, start}
use Rattle.machine.specs.Seen.{stands}
use Rattle.machine.specs.State.{Core, Ports}
use Rattle.machine.specs.State.State.{broken}
use Rattle.agreement.specs.Agreement.{Agreement, Agrees}
use Rattle.sequencer.specs.declared.report.Report.{Report}
use Rattle.sequencer.specs.Calls.{told, report_answer}
use Rattle.sequencer.specs.Model.{Model, begun, code_of}
use Rattle.sequencer.specs.Reports.{report_of}
use Rattle.sheet.specs.Faithful.{program_of}
use Rattle.session.specs.Law.{world_of}
use Rattle.session.proofs.Lawful.{At, law}
use Rattle.foreign.specs.Calls.{Granted, tree_in, perform_verdict, Tells, take_of, Performed, Performs}

tells : (s : Status) (k : Core) (to : Ports) (n : ℕ) → (stands s k to ≡ broken → ⊥) → Tells (stands s k to) n to (report_of s n)
tells Running k to n h = (refl, refl)
tells (Halted e node) k to n h = (refl, refl)
tells Broken k to n h = h refl

module _ (R : Rules) (limit : 512 ≤ R.limit) (agreement : Agreement) (table : List ℕ) (ok : table_verdict table ≡ Ok tt) where
  small : size_c (tree_in table) ≤ R.limit
  small =
      let shape : shape_verdict (nodes_of table) ≡ Ok tt = (both_accept _ _ (both_accept _ _ ok).1).0 in
      let size : size_c (tree_in table) ≡ length (nodes_of table) = root-size (nodes_of table) shape in
      let count = length-nodes table (length table / 8) in
      let most = (well_formed table ok).most in
      omega arith

  module _ (fuel : ℕ) (m : Model) (from to : Ports) (g : Granted R fuel (begun (program_of table)) m from to) where
    agrees : Agrees R (tree_in table) (world_of from)
    agrees = agreement R (tree_in table) (world_of from) (well_formed table ok).names small refl

    at : At R (take_of (tree_in table) fuel from to (told m)) m
    at = record {
      named = (well_formed table ok).names;
      small = small;
      code = ap code_of g.program;
      told = refl;
      moved = g.moved;
      steps = let s = g.steps in omega arith;
    }

    performed : Performed R (tree_in table) fuel from to (told m)
    performed = record {
      exact =
          let steps : m.steps ≡ taken R (program (tree_in table)) fuel (start (world_of from)) = at.steps in
          subst (λ n. Tells (iterate R (program (tree_in table)) fuel (start (world_of from))) n to (told m)) steps
          (subst (λ x. Tells x m.steps to (told m)) g.moved
          (tells m.status m.core to m.steps (λ e. agrees.unbroken fuel (sym g.moved ∙ e))));
      lawful = law R _ m agrees at;
    }

    pub performs : (r : Result Report Refusal) → fuel ≤ 1000000000 → r ≡ report_answer m → Performs R table fuel from to r
    performs r few e =
        let there : report_answer m ≡ Ok (told m) = ap (λ p. result_and (unless (is_some p) NoProgram 0) (Ok (told m))) g.program in
        let verdict : perform_verdict table fuel ≡ Ok tt =
        ap (λ v. result_and v (unless (leb fuel 1000000000) Fuel 0)) ok ∙ ap (λ b. unless b Fuel 0) (le-leb fuel 1000000000 few) in
        subst (Performs R table fuel from to) (sym (e ∙ there)) (verdict, performed)
