-- Fuel granted in runs is fuel granted at once; and a take that has ended stays where it is, whatever else is granted.
use Rattle.std.proofs.Common.{◌≡◌, ℕ, zero, suc, ◌+◌, ◌-◌, ◌≤◌, Bool, true, false, List, is_some, Ok, Err, Result, sym, refl, ap, ◌∙◌, subst, arith}
use Rattle.std.specs.Result.{result_and}
use Rattle.std.proofs.lemmas.Bool.{le-leb}
use Rattle.vocabulary.specs.declared.code.Word.{Word}
use Rattle.vocabulary.specs.declared.end.End.{End}
use Rattle.vocabulary.specs.declared.refusal.Cause.TheVariants.{NoProgram, TakeEnded, Fuel}
use Rattle.vocabulary.specs.declared.refusal.Refusal.{Refusal}
use Rattle.vocabulary.specs.Refusals.{unless}
use Rattle.vocabulary.specs.World.{World, Rules}
use Rattle.machine.specs.declared.tables.Status.{Status}
use Rattle.machine.specs.declared.tables.Status.TheVariants.{Running, Halted, Broken}
use Rattle.machine.specs.Machine.{iterate, taken}
use Rattle.machine.specs.Seen.{stands}
use Rattle.machine.specs.State.{Core, Ports, State}
use Rattle.machine.specs.State.State.{halted, broken}
use Rattle.agreement.proofs.Steps.{iterate_add, halted-stays, broken-stays}
use Rattle.sequencer.specs.Calls.{state_of, Stepped, RunAnswer, program_verdict, run_verdict, goes_on, grants}
use Rattle.sequencer.specs.declared.report.Report.{Report}
use Rattle.sequencer.specs.declared.state.Sequencer.{Sequencer}
use Rattle.sequencer.specs.Model.{Model, model, code_of}
use Rattle.session.proofs.Grants.{taken_add}
use Rattle.foreign.specs.Calls.{Granted}

module _ (R : Rules) where
  pub granted_none : (n : ℕ) (m : Model) (o : Ports) → n ≡ 0 → Granted R n m m o o
  unfolding taken
  granted_none n m o e = record {
    program = refl;
    moved = sym (ap (λ k. iterate R (code_of m.program) k (state_of m o)) e);
    steps = let t : taken R (code_of m.program) n (state_of m o) ≡ 0 = ap (λ k. taken R (code_of m.program) k (state_of m o)) e in omega arith;
  }

  module _ (k : ℕ) (first m : Model) (from o : Ports) (g : Granted R k first m from o) where
    abbrev code : List Word
    code = code_of first.program

    abbrev begin : State
    begin = state_of first from

    pub granted_more : (j n : ℕ) (m' : Model) (o' : Ports) → Stepped R j m m' o o' → n ≡ k + j → Granted R n first m' from o'
    granted_more j n m' o' s e =
        let same : code_of m.program ≡ code = ap code_of g.program in
        record {
          program = s.program ∙ g.program;
          moved =
              s.moved ∙ ap (λ c. iterate R c j (state_of m o)) same ∙ ap (iterate R code j) g.moved
              ∙ sym (iterate_add R code k j begin) ∙ sym (ap (λ i. iterate R code i begin) e);
          steps =
              let now : m'.steps ≡ m.steps + taken R code j (iterate R code k begin) =
              s.steps ∙ ap (λ c. m.steps + taken R c j (state_of m o)) same ∙ ap (λ x. m.steps + taken R code j x) g.moved in
              let was = g.steps in
              let both : taken R code n begin ≡ taken R code k begin + taken R code j (iterate R code k begin) =
              ap (λ i. taken R code i begin) e ∙ taken_add R code k j begin in
              omega arith;
        }

  -- no step moves a machine that does not go on, and none is counted
  stays : (prog : List Word) (s : Status) (c : Core) (o : Ports) (n : ℕ) → goes_on s ≡ false → iterate R prog n (stands s c o) ≡ stands s c o
  stays prog Running c o n e = let z : ◌≡◌ {A = ℕ} 0 1 = cc in absurd (omega arith)
  stays prog (Halted end node) c o n e = halted-stays R prog n end node _
  stays prog Broken c o n e = broken-stays R prog n

  taken-halted : (prog : List Word) (n : ℕ) (e : End) (node : ℕ) (w : World) → taken R prog n (halted e node w) ≡ 0
  unfolding taken
  taken-halted prog zero e node w = refl
  taken-halted prog (suc n) e node w = omega (arith, taken-halted prog n e node w)

  taken-broken : (prog : List Word) (n : ℕ) → taken R prog n broken ≡ 0
  unfolding taken
  taken-broken prog zero = refl
  taken-broken prog (suc n) = omega (arith, taken-broken prog n)

  idles : (prog : List Word) (s : Status) (c : Core) (o : Ports) (n : ℕ) → goes_on s ≡ false → taken R prog n (stands s c o) ≡ 0
  idles prog Running c o n e = let z : ◌≡◌ {A = ℕ} 0 1 = cc in absurd (omega arith)
  idles prog (Halted end node) c o n e = taken-halted prog n end node _
  idles prog Broken c o n e = taken-broken prog n

  -- a take that has ended is where it would be with more
  granted-over : (k n : ℕ) (first m : Model) (from o : Ports) → Granted R k first m from o → goes_on m.status ≡ false → k ≤ n → Granted R n first m from o
  granted-over k n first m from o g e h =
      let prog = code_of first.program in
      let begin = state_of first from in
      let sum : n ≡ k + (n - k) = omega arith in
      record {
        program = g.program;
        moved =
            sym (stays prog m.status m.core o (n - k) e) ∙ ap (iterate R prog (n - k)) g.moved
            ∙ sym (iterate_add R prog k (n - k) begin) ∙ sym (ap (λ i. iterate R prog i begin) sum);
        steps =
            let none : taken R prog (n - k) (iterate R prog k begin) ≡ 0 =
            ap (taken R prog (n - k)) (sym g.moved) ∙ idles prog m.status m.core o (n - k) e in
            let both : taken R prog n begin ≡ taken R prog k begin + taken R prog (n - k) (iterate R prog k begin) =
            ap (λ i. taken R prog i begin) sum ∙ taken_add R prog k (n - k) begin in
            let was = g.steps in
            omega arith;
      }

  -- the same after a run that was refused, which changed nothing
  pub granted-refused : (k n : ℕ) (first : Model) (before after : Sequencer) (from o o' : Ports) → Granted R k first (model before) from o →
      goes_on (model before).status ≡ false → k ≤ n → after ≡ before → o' ≡ o → Granted R n first (model after) from o'
  granted-refused k n first before after from o o' g e h s t =
      subst (λ x. Granted R n first (model x) from o') (sym s)
      (subst (λ x. Granted R n first (model before) from x) (sym t) (granted-over k n first (model before) from o g e h))

-- a run of at most a million, within the billion, is refused to a program only when its take has ended
pub refused-ended : (m : Model) (fuel : ℕ) (e : Refusal) → program_verdict m ≡ Ok tt → fuel ≤ 1000000 → m.granted + fuel ≤ 1000000000 →
    run_verdict m fuel ≡ Err e → goes_on m.status ≡ false
refused-ended m fuel e p few enough h =
    let a = le-leb fuel 1000000 few in
    let b = le-leb (m.granted + fuel) 1000000000 enough in
    let grant : grants m.granted fuel ≡ true = simp (a, b) refl in
    let rest : result_and (unless (goes_on m.status) TakeEnded 0) (unless true Fuel 0) ≡ Err e =
    subst (λ x. result_and (unless (goes_on m.status) TakeEnded 0) (unless x Fuel 0) ≡ Err e) grant
    (subst (λ v. result_and v (result_and (unless (goes_on m.status) TakeEnded 0) (unless (grants m.granted fuel) Fuel 0)) ≡ Err e) p h) in
    go (goes_on m.status) rest
  where
    go : (b : Bool) → result_and (unless b TakeEnded 0) (unless true Fuel 0) ≡ Err e → b ≡ false
    go true q = let z : ◌≡◌ {A = ℕ} 0 1 = cc in absurd (omega arith)
    go false q = refl

-- the next run of a take, carried out or refused: the fuel that was granted is granted, and no more is counted
module _ (R : Rules) (k j : ℕ) (first : Model) (before after : Sequencer) (from o o' : Ports) (r : Result Report Refusal)
    (g : Granted R k first (model before) from o) (p : program_verdict first ≡ Ok tt)
    (few : j ≤ 1000000) (enough : (model before).granted + j ≤ 1000000000) where
  there : program_verdict (model before) ≡ Ok tt
  there = ap (λ q. unless (is_some q) NoProgram 0) g.program ∙ p

  pub granted_run : (n : ℕ) → RunAnswer R j before after o o' r → n ≡ k + j → Granted R n first (model after) from o'
  granted_run n a e = go r a
    where
      go : (r : Result Report Refusal) → RunAnswer R j before after o o' r → Granted R n first (model after) from o'
      go (Ok report) a = granted_more R k first (model before) from o g j n (model after) o' a.1 e
      go (Err refusal) a = granted-refused R k n first before after from o o' g (refused-ended (model before) j refusal there few enough a.0) (omega arith) a.1 a.2

-- a run counts no more than its fuel
pub counted : (R : Rules) (j : ℕ) (before after : Sequencer) (o o' : Ports) (r : Result Report Refusal) → RunAnswer R j before after o o' r → (model after).granted ≤ (model before).granted + j
counted R j before after o o' (Ok report) a = let s = a.1.granted in omega arith
counted R j before after o o' (Err refusal) a = let s = ap (λ x. (model x).granted) a.1 in omega arith
