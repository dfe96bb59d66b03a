-- The work that several forms share: a plain value (expression, then DEREF), a test with two ways on (if and choice), and the call of
-- a body (both calls). Each keeps the simulation's statement, whatever sort of tree and whatever result it is used for.
use Rattle.std.proofs.Common.{◌≡◌, ℕ, suc, ◌+◌, ◌≤◌, true, false, List, ◌∷◌, ◌++◌, drop, Some, None, Option, sym, refl, ap, ◌∙◌, subst, arith}
use Rattle.vocabulary.specs.declared.code.Instruction.TheVariants.{Deref, JumpFalse, Jump, Call}
use Rattle.vocabulary.specs.declared.value.Plain.{Plain}
use Rattle.vocabulary.specs.declared.value.Plain.TheVariants.{Number, Truth}
use Rattle.vocabulary.specs.declared.value.Value.{Value}
use Rattle.vocabulary.specs.declared.value.Value.TheVariants.{Plain as plain, Location}
use Rattle.vocabulary.specs.Tables.{found}
use Rattle.vocabulary.specs.World.{World}
use Rattle.language.specs.declared.name.Role.{Role}
use Rattle.language.specs.Tree.{Expression, size_e, node_e}
use Rattle.language.specs.Tree.Expression.{number, truth, read, name, operation, function_call, choice}
use Rattle.language.specs.Scope.{scope_inside, place_of, newer_of}
use Rattle.language.specs.Names.{Names, NamedE}
use Rattle.language.specs.Translation.{one, behind_e, plain_end, code_e, plain_code}
use Rattle.language.specs.Outcomes.{Denoted, Binding, Found, Outcome, bind, deref, or_lost, plainly, tested}
use Rattle.language.specs.Outcomes.Binding.{binding}
use Rattle.language.specs.Outcomes.Denoted.{value}
use Rattle.language.specs.Outcomes.Found.{named}
use Rattle.language.specs.Meaning.{eval_e}
use Rattle.machine.specs.declared.tables.Bound.TheVariants.{Holds}
use Rattle.machine.specs.State.{Config, config, ahead, sides}
use Rattle.machine.specs.State.Dump.{frame}
use Rattle.machine.specs.Instructions.{replace_top, with_stack}
use Rattle.agreement.proofs.Steps.{Setup, Is, Reach, stay, then, also}
use Rattle.agreement.proofs.Placed.{Sort, expressions, plains, Stands, Placed, part, operand_is}
use Rattle.agreement.proofs.Scene.{Scene, Waiting, Inside, all_inside_more, Fits, fits_part}
use Rattle.agreement.proofs.Scene.Corresponds.{more}
use Rattle.agreement.proofs.Lookup.{RoutineAt}
use Rattle.agreement.proofs.Instructions.{noting, call_with_room, found_inside}
use Rattle.agreement.proofs.Simulation.{Work, a_value, a_plain, is_done, is_ended, and_then, lastly, at, Done, Does, Sim, SimE, SimPlain}

pub a_node_at_least : (t : Expression) → 1 ≤ size_e t
a_node_at_least (number nd z) = omega arith
a_node_at_least (truth nd t) = omega arith
a_node_at_least (read nd) = omega arith
a_node_at_least (name nd x) = omega arith
a_node_at_least (operation nd o a b) = omega arith
a_node_at_least (function_call nd f a) = omega arith
a_node_at_least (choice nd a b c) = omega arith

module _ (S : Setup) (g : ℕ) (sim_e : SimE S g) where
  -- a plain value: the expression, and DEREF behind it
  pub sim_plain : SimPlain S g
  sim_plain t Γ K p w b r placed fits hb =
      let q = part S.code expressions t Γ.scope p _ placed.named placed.stands in
      and_then S deref (stay S) (omega arith) (omega arith) (sim_e t Γ K p w b r q.0 fits hb)
      (λ v w₁ c s d. top q.1.0 v w₁ c s d)
    where
      here : Value → World → Config
      here v w₁ = config (behind_e t p) (v ∷ K.values) Γ.environment K.used K.dump w₁

      some : 1 ≤ size_e t
      some = a_node_at_least t

      cell : Is S.code (behind_e t p) Deref (node_e t) → (o : Option Plain) (l : ℕ) (w₁ : World) (c s : ℕ) → Done S a_value Γ K p (behind_e t p) w b (Location l) w₁ c s →
          found w₁.cells l ≡ o → (a : Plain) × (o ≡ Some a) → Does S a_plain Γ K p (plain_end t (behind_e t p)) w b (size_e t) (or_lost o w₁ c)
      cell i None l w₁ c s d e is = let y = is.1 in let x : ◌≡◌ {A = ℕ} 0 1 = cc in absurd (omega arith)
      cell i (Some a) l w₁ c s d e is = let n = some in is_done S (s + 1) (record {
        reach = also S Deref (node_e t) d.reach i (omega arith) (noting (node_e t) (sides (here (Location l) w₁)) (ap (λ o. replace_top o K.values (ahead (here (Location l) w₁))) e));
        most = omega arith;
        least = omega arith;
        same = d.same;
        inside = tt;
      })

      top : Is S.code (behind_e t p) Deref (node_e t) → (v : Value) (w₁ : World) (c s : ℕ) → Done S a_value Γ K p (behind_e t p) w b v w₁ c s →
          Does S a_plain Γ K p (plain_end t (behind_e t p)) w b (size_e t) (deref v w₁ c)
      top i (plain a) w₁ c s d = let n = some in is_done S (s + 1) (record {
        reach = also S Deref (node_e t) d.reach i (omega arith) refl;
        most = omega arith;
        least = omega arith;
        same = d.same;
        inside = tt;
      })
      top i (Location l) w₁ c s d =
          let j = d.inside in let e = d.same in
          cell i (found w₁.cells l) l w₁ c s d refl (found_inside w₁.cells l (omega arith))

  module _ {T A : Type 0} (σ : Sort T) (k : Work A) (eval : T → List Binding → World → ℕ → Outcome A) (sim : Sim S σ k eval g)
      (Γ : Scene S.code) (K : Waiting) (p : ℕ) (w : World) (b r : ℕ) (hb : b ≤ g) where
    -- if and choice: a test, and two ways on
    pub choosing : (nd : ℕ) (a : Expression) (c d : T) → NamedE a Γ.scope × σ.Named c Γ.scope × σ.Named d Γ.scope →
        (let q = suc (plain_end a (behind_e a p)) in let q₁ = suc (σ.behind c q) in
        Stands S.code p (plain_code a (code_e a Γ.scope p) ++ (one (JumpFalse q₁) nd ++ (σ.code c Γ.scope q ++ (one (Jump (σ.behind d q₁)) nd ++ σ.code d Γ.scope q₁)))) →
        Fits S.room Γ.bindings K w r (suc (size_e a + σ.size c + σ.size d)) →
        Does S k Γ K p (σ.behind d q₁) w (suc b) (suc (size_e a + σ.size c + σ.size d))
        (bind (plainly (eval_e S.rules g a Γ.bindings w b)) λ x w₁ b₁. tested nd x w₁ b₁ λ t. elim t [ true ↦ eval c Γ.bindings w₁ b₁ | false ↦ eval d Γ.bindings w₁ b₁ ]))
    choosing nd a c d visible stands fits =
        let q = suc (plain_end a (behind_e a p)) in
        let pa = part S.code plains a Γ.scope p _ visible.0 stands in
        let pc = part S.code σ c Γ.scope q _ visible.1 pa.1.1 in
        and_then S _ (stay S) (omega arith) (omega arith) (sim_plain a Γ K p w b r pa.0 (fits_part w (size_e a) fits refl (omega arith)) hb)
        (λ x w₁ b₁ s₁ d₁. go pa.1.0 pc.0 pc.1.0 (record { named = visible.2; stands = pc.1.1 }) x w₁ b₁ s₁ d₁)
      where
        q : ℕ
        q = suc (plain_end a (behind_e a p))

        q₁ : ℕ
        q₁ = suc (σ.behind c q)

        go : Is S.code (plain_end a (behind_e a p)) (JumpFalse q₁) nd → Placed σ S.code c Γ.scope q → Is S.code (σ.behind c q) (Jump (σ.behind d q₁)) nd → Placed σ S.code d Γ.scope q₁ →
            (x : Plain) (w₁ : World) (b₁ s₁ : ℕ) → Done S a_plain Γ K p (plain_end a (behind_e a p)) w b x w₁ b₁ s₁ →
            Does S k Γ K p (σ.behind d q₁) w (suc b) (suc (size_e a + σ.size c + σ.size d))
            (tested nd x w₁ b₁ λ t. elim t [ true ↦ eval c Γ.bindings w₁ b₁ | false ↦ eval d Γ.bindings w₁ b₁ ])
        go jf on_true jump on_false (Number z) w₁ b₁ s₁ d₁ = is_ended S (s₁ + 1) (also S _ nd d₁.reach jf (omega arith) refl) (omega arith)
        go jf on_true jump on_false (Truth true) w₁ b₁ s₁ d₁ =
            let r₁ = also S _ nd d₁.reach jf (omega arith) refl in
            lastly S r₁ (omega arith) (omega arith) (sim c Γ K q w₁ b₁ r on_true (fits_part w₁ (σ.size c) fits d₁.same (omega arith)) (omega arith))
            (λ a w₂ b₂ s₂ d₂. let f = k.few a K.values in (
              s₁ + 1 + s₂ + 1,
              record {
                reach = also S _ nd (then S r₁ d₂.reach) jump (omega arith) refl;
                most = omega arith;
                least = omega arith;
                same = d₂.same ∙ d₁.same;
                inside = subst (λ n. k.In n a) d₁.same d₂.inside;
              },
            ))
        go jf on_true jump on_false (Truth false) w₁ b₁ s₁ d₁ =
            let r₁ = also S _ nd d₁.reach jf (omega arith) refl in
            lastly S r₁ (omega arith) (omega arith) (sim d Γ K q₁ w₁ b₁ r on_false (fits_part w₁ (σ.size d) fits d₁.same (omega arith)) (omega arith))
            (λ a w₂ b₂ s₂ d₂. (
              s₁ + 1 + s₂,
              record {
                reach = then S r₁ d₂.reach;
                most = omega arith;
                least = omega arith;
                same = d₂.same ∙ d₁.same;
                inside = subst (λ n. k.In n a) d₁.same d₂.inside;
              },
            ))

    -- both calls: the argument, CALL, the body under its own scene, and RET. `as_routine` is what the source makes of what it finds
    pub calling : (as_routine : Found → (ℕ → T → List Binding → Outcome A) → Outcome A) (routine : ℕ → T → Denoted) →
        ((y : ℕ) (t : T) (rest : List Binding) (next : ℕ → T → List Binding → Outcome A) → as_routine (named (routine y t) rest) next ≡ next y t rest) →
        (nd f : ℕ) (a : Expression) (role : Role) (n : Names Γ.scope f role) (F : Found) → RoutineAt S.code Γ.bindings Γ.environment n.0 F σ routine →
        NamedE a Γ.scope → Stands S.code p (code_e a Γ.scope p ++ one (Call (newer_of (place_of Γ.scope f))) nd) → Fits S.room Γ.bindings K w r (suc (size_e a)) →
        Does S k Γ K p (suc (behind_e a p)) w (suc b) (suc (size_e a))
        (bind (eval_e S.rules g a Γ.bindings w b) λ v w₁ b₁. as_routine F λ y t rest. eval t (binding y (value v) ∷ rest) w₁ b₁)
    calling as_routine routine goes_on nd f a role n F q visible stands fits =
        let pa = part S.code expressions a Γ.scope p _ visible stands in
        let i = operand_is S.code Call (behind_e a p) nd Γ.scope f role n pa.1.0 in
        and_then S _ (stay S) (omega arith) (omega arith)
        (sim_e a Γ K p w b r pa.0 (fits_part w (size_e a) fits refl (omega arith)) hb)
        (λ v w₁ b₁ s₁ d₁.
        let c : Config = config (behind_e a p) (v ∷ K.values) Γ.environment K.used K.dump w₁ in
        let Γ₁ : Scene S.code = record {
          scope = scope_inside q.parameter q.scope;
          bindings = binding q.parameter (value v) ∷ q.rest;
          environment = Holds v ∷ drop (suc n.0) Γ.environment;
          corresponds = more q.parameter (value v) (Holds v) refl q.behind;
        } in
        let K₁ : Waiting = record { values = K.values; used = suc K.used; dump = frame Γ.environment K.used (suc (behind_e a p)) ∷ K.dump } in
        let lighter = q.fewer in
        let r₁ : Reach S (at S Γ K p w) (s₁ + 1) (at S Γ₁ K₁ q.body.start w₁) =
        also S _ nd d₁.reach i (omega arith)
        (noting nd (sides c) (call_with_room S.rules.limit v n.0 q.body.start (with_stack K.values (ahead c)) (q.slot ∙ ap Some q.body.is) (omega arith) (omega arith))) in
        subst (λ o. Does S k Γ K p (suc (behind_e a p)) w (suc b) (suc (size_e a)) o)
        (sym (ap (λ F. as_routine F λ y t rest. eval t (binding y (value v) ∷ rest) w₁ b₁) q.is ∙ goes_on q.parameter q.tree q.rest (λ y t rest. eval t (binding y (value v) ∷ rest) w₁ b₁)))
        (lastly S r₁ (omega arith) (omega arith)
        (sim q.tree Γ₁ K₁ q.body.start w₁ b₁ (suc r) q.body.placed
        (record {
          inside = (subst (λ n. Inside n v) (sym d₁.same) d₁.inside, all_inside_more _ _ (omega arith) q.rest (q.inside _ fits.inside));
          values = omega arith;
          used = omega arith;
          dump = omega arith;
          cells = omega arith;
          enough = omega arith;
        }) (omega arith))
        (λ x w₂ b₂ s₂ d₂. let f = k.few x K.values in (
          s₁ + 1 + s₂ + 1,
          record {
            reach = also S _ q.body.node (then S r₁ d₂.reach) q.body.returns (omega arith) refl;
            most = omega arith;
            least = omega arith;
            same = d₂.same ∙ d₁.same;
            inside = subst (λ n. k.In n x) d₁.same d₂.inside;
          },
        ))))
