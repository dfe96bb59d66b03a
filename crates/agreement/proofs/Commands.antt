-- The simulation of commands: a lemma for each form that has one of its own, and then the induction on the depth. A command leaves the
-- machine's tables as it found them, and as many cells.
use Rattle.std.proofs.Common.{ℕ, zero, suc, ◌+◌, ◌≤◌, Bool, true, false, ◌∷◌, length, set, refl, ◌∙◌, arith, length-set, length-take}
use Rattle.vocabulary.specs.declared.code.Instruction.TheVariants.{JumpFalse, Jump, IsLoc, Store, Put, Enter, Leave}
use Rattle.vocabulary.specs.declared.value.Plain.{Plain}
use Rattle.vocabulary.specs.declared.value.Plain.TheVariants.{Number, Truth}
use Rattle.vocabulary.specs.declared.value.Value.{Value}
use Rattle.vocabulary.specs.declared.value.Value.TheVariants.{Plain as plain, Location}
use Rattle.vocabulary.specs.World.{World, with_cells, has_room}
use Rattle.language.specs.declared.name.Role.TheVariants.{Procedure}
use Rattle.language.specs.Tree.{Expression, Command, Declaration, size_e, size_c, size_d}
use Rattle.language.specs.Tree.Command.{assign, output, when, while, block, sequence, procedure_call}
use Rattle.language.specs.Scope.{scope_after}
use Rattle.language.specs.Translation.{behind_e, behind_c, behind_d, plain_end}
use Rattle.language.specs.Outcomes.{bind, plainly, tested, located, putting, as_procedure}
use Rattle.language.specs.Outcomes.Denoted.{procedure_body}
use Rattle.language.specs.Outcomes.Outcome.{done}
use Rattle.language.specs.Meaning.{eval_e, eval_c}
use Rattle.machine.specs.State.{config, ahead, ports, spent_in, noted}
use Rattle.machine.specs.State.Dump.{frame}
use Rattle.machine.specs.Instructions.{put_if}
use Rattle.agreement.proofs.Steps.{Setup, Is, Reach, stay, then, also}
use Rattle.agreement.proofs.Placed.{expressions, plains, commands, declarations, Placed, part}
use Rattle.agreement.proofs.Scene.{Scene, Waiting, on, Fits, fits_part, fits_on}
use Rattle.agreement.proofs.Lookup.{resolve, procedure_at}
use Rattle.agreement.proofs.Instructions.{noting, with_room}
use Rattle.agreement.proofs.Simulation.{a_value, a_plain, a_command, is_done, is_ended, is_cut, and_then, lastly, at, Done, scene_after, waiting_after, fits_after, Does, SimC}
use Rattle.agreement.proofs.Shared.{a_node_at_least, sim_plain, choosing, calling}
use Rattle.agreement.proofs.Expressions.{sim_e}
use Rattle.agreement.proofs.Declarations.{sim_d}

module _ (S : Setup) where
  module _ (g : ℕ) (ih : SimC S g) (Γ : Scene S.code) (K : Waiting) (p : ℕ) (w : World) (b r : ℕ) (hb : b ≤ g) where
    -- the command t, begun with one visit more than b
    abbrev Claim : Command → Type 0
    Claim t = Placed commands S.code t Γ.scope p → Fits S.room Γ.bindings K w r (size_c t) →
        Does S a_command Γ K p (behind_c t p) w (suc b) (size_c t) (eval_c S.rules (suc g) t Γ.bindings w (suc b))

    sequence_case : (nd : ℕ) (a c : Command) → Claim (sequence nd a c)
    unfolding eval_c
    sequence_case nd a c placed fits =
        let qa = part S.code commands a Γ.scope p _ placed.named.0 placed.stands in
        and_then S _ (stay S) (omega arith) (omega arith)
        (ih a Γ K p w b r qa.0 (fits_part w (size_c a) fits refl (omega arith)) hb)
        (λ u w₁ b₁ s₁ d₁.
        lastly S d₁.reach (omega arith) (omega arith)
        (ih c Γ K (behind_c a p) w₁ b₁ r (record { named = placed.named.1; stands = qa.1 }) (fits_part w₁ (size_c c) fits d₁.same (omega arith)) (omega arith))
        (λ u₂ w₂ b₂ s₂ d₂.
        (s₁ + s₂, record { reach = then S d₁.reach d₂.reach; most = omega arith; least = omega arith; same = d₂.same ∙ d₁.same; inside = tt })))

    output_case : (nd : ℕ) (a : Expression) → Claim (output nd a)
    unfolding eval_c
    output_case nd a placed fits =
        let qa = part S.code plains a Γ.scope p _ placed.named placed.stands in
        and_then S _ (stay S) (omega arith) (omega arith)
        (sim_plain S g (sim_e S g) a Γ K p w b r qa.0 (fits_part w (size_e a) fits refl (omega arith)) hb)
        (λ v w₁ b₁ s₁ d₁. put v w₁ b₁ s₁ d₁ (has_room S.rules v w₁) (also S Put nd d₁.reach qa.1.0 (omega arith) refl))
      where
        put : (v : Plain) (w₁ : World) (b₁ s₁ : ℕ) → Done S a_plain Γ K p (plain_end a (behind_e a p)) w b v w₁ b₁ s₁ →
            (t : Bool) → Reach S (at S Γ K p w) (s₁ + 1) (noted nd (spent_in (put_if S.rules.price t v K.values
            (ahead (config (plain_end a (behind_e a p)) (plain v ∷ K.values) Γ.environment K.used K.dump w₁)) w₁.strip w₁.space) (ports w₁.feed w₁.strip w₁.space))) →
            Does S a_command Γ K p (behind_c (output nd a) p) w (suc b) (size_c (output nd a)) (putting nd S.rules v w₁ b₁ t)
        put v w₁ b₁ s₁ d₁ true re = is_done S (s₁ + 1) (record { reach = re; most = omega arith; least = omega arith; same = d₁.same; inside = tt })
        put v w₁ b₁ s₁ d₁ false re = is_ended S (s₁ + 1) re (omega arith)

    assign_case : (nd : ℕ) (a c : Expression) → Claim (assign nd a c)
    unfolding eval_c
    assign_case nd a c placed fits =
        let qa = part S.code expressions a Γ.scope p _ placed.named.0 placed.stands in
        let qc = part S.code plains c Γ.scope (suc (behind_e a p)) _ placed.named.1 qa.1.1 in
        and_then S _ (stay S) (omega arith) (omega arith)
        (sim_e S g a Γ K p w b r qa.0 (fits_part w (size_e a) fits refl (omega arith)) hb)
        (λ v w₁ b₁ s₁ d₁. onto qa.1.0 qc.0 qc.1.0 v w₁ b₁ s₁ d₁)
      where
        onto : Is S.code (behind_e a p) IsLoc nd → Placed plains S.code c Γ.scope (suc (behind_e a p)) → Is S.code (plain_end c (behind_e c (suc (behind_e a p)))) Store nd →
            (v : Value) (w₁ : World) (b₁ s₁ : ℕ) → Done S a_value Γ K p (behind_e a p) w b v w₁ b₁ s₁ →
            Does S a_command Γ K p (behind_c (assign nd a c) p) w (suc b) (size_c (assign nd a c))
            (located nd v w₁ b₁ λ l. bind (plainly (eval_e S.rules g c Γ.bindings w₁ b₁)) λ q w₂ b₂. done tt (with_cells w₂ (set w₂.cells l q)) b₂)
        onto isloc right store (plain q) w₁ b₁ s₁ d₁ = is_ended S (s₁ + 1) (also S IsLoc nd d₁.reach isloc (omega arith) refl) (omega arith)
        onto isloc right store (Location l) w₁ b₁ s₁ d₁ =
            let r₁ = also S IsLoc nd d₁.reach isloc (omega arith) refl in
            let i = d₁.inside in let na = a_node_at_least a in
            and_then S _ r₁ (omega arith) (omega arith)
            (sim_plain S g (sim_e S g) c Γ (on (Location l) K) (suc (behind_e a p)) w₁ b₁ (suc r) right
            (fits_on w₁ (size_e c) (Location l) fits d₁.same (omega arith)) (omega arith))
            (λ v w₂ b₂ s₂ d₂.
            is_done S (s₁ + 1 + s₂ + 1) (record {
              reach = also S Store nd (then S r₁ d₂.reach) store (omega arith)
                  (noting nd (ports w₂.feed w₂.strip w₂.space) (with_room l (length w₂.cells) _ (omega arith)));
              most = omega arith;
              least = omega arith;
              same = length-set w₂.cells l v ∙ (d₂.same ∙ d₁.same);
              inside = tt;
            }))

    while_case : (nd : ℕ) (a : Expression) (c : Command) → Claim (while nd a c)
    unfolding eval_c
    while_case nd a c placed fits =
        let qa = part S.code plains a Γ.scope p _ placed.named.0 placed.stands in
        let qc = part S.code commands c Γ.scope (suc (plain_end a (behind_e a p))) _ placed.named.1 qa.1.1 in
        and_then S _ (stay S) (omega arith) (omega arith)
        (sim_plain S g (sim_e S g) a Γ K p w b r qa.0 (fits_part w (size_e a) fits refl (omega arith)) hb)
        (λ x w₁ b₁ s₁ d₁. go qa.1.0 qc.0 qc.1.0 x w₁ b₁ s₁ d₁)
      where
        go : Is S.code (plain_end a (behind_e a p)) (JumpFalse (behind_c (while nd a c) p)) nd → Placed commands S.code c Γ.scope (suc (plain_end a (behind_e a p))) →
            Is S.code (behind_c c (suc (plain_end a (behind_e a p)))) (Jump p) nd →
            (x : Plain) (w₁ : World) (b₁ s₁ : ℕ) → Done S a_plain Γ K p (plain_end a (behind_e a p)) w b x w₁ b₁ s₁ →
            Does S a_command Γ K p (behind_c (while nd a c) p) w (suc b) (size_c (while nd a c))
            (tested nd x w₁ b₁ λ t. elim t [
              | true ↦ bind (eval_c S.rules g c Γ.bindings w₁ b₁) (λ u w₂ b₂. eval_c S.rules g (while nd a c) Γ.bindings w₂ b₂)
              | false ↦ done tt w₁ b₁
            ])
        go jf body jump (Number z) w₁ b₁ s₁ d₁ = is_ended S (s₁ + 1) (also S _ nd d₁.reach jf (omega arith) refl) (omega arith)
        go jf body jump (Truth true) w₁ b₁ s₁ d₁ =
            let r₁ = also S _ nd d₁.reach jf (omega arith) refl in
            and_then S _ r₁ (omega arith) (omega arith)
            (ih c Γ K _ w₁ b₁ r body (fits_part w₁ (size_c c) fits d₁.same (omega arith)) (omega arith))
            (λ u w₂ b₂ s₂ d₂.
            let r₂ = also S _ nd (then S r₁ d₂.reach) jump (omega arith) refl in
            lastly S r₂ (omega arith) (omega arith)
            (ih (while nd a c) Γ K p w₂ b₂ r placed (fits_part w₂ _ fits (d₂.same ∙ d₁.same) (omega arith)) (omega arith))
            (λ u₃ w₃ b₃ s₃ d₃. (
              s₁ + 1 + s₂ + 1 + s₃,
              record {
                reach = then S r₂ d₃.reach;
                most = omega arith;
                least = omega arith;
                same = d₃.same ∙ (d₂.same ∙ d₁.same);
                inside = tt;
              },
            )))
        go jf body jump (Truth false) w₁ b₁ s₁ d₁ =
            is_done S (s₁ + 1) (record { reach = also S _ nd d₁.reach jf (omega arith) refl; most = omega arith; least = omega arith; same = d₁.same; inside = tt })

    block_case : (nd : ℕ) (d : Declaration) (c : Command) → Claim (block nd d c)
    unfolding eval_c
    block_case nd d c placed fits =
        let qd = part S.code declarations d Γ.scope (suc p) _ placed.named.0 placed.stands.1 in
        let qc = part S.code commands c (scope_after d Γ.scope) (behind_d d (suc p)) _ placed.named.1 qd.1 in
        let K₀ : Waiting = record { values = K.values; used = K.used; dump = frame Γ.environment K.used (length w.cells) ∷ K.dump } in
        let r₀ : Reach S (at S Γ K p w) 1 (at S Γ K₀ (suc p) w) =
        also S Enter nd (stay S) placed.stands.0 (omega arith) (noting nd (ports w.feed w.strip w.space) (with_room (length K.dump) S.rules.limit _ (omega arith))) in
        let f₀ : Fits S.room Γ.bindings K₀ w (suc r) (size_d d + size_c c) =
        record { inside = fits.inside; values = omega arith; used = omega arith; dump = omega arith; cells = omega arith; enough = omega arith } in
        and_then S _ r₀ (omega arith) (omega arith)
        (sim_d S g d Γ K₀ (suc p) w b (suc r) qd.0 (fits_part w (size_d d) f₀ refl (omega arith)) hb)
        (λ bs w₁ b₁ s₁ d₁.
        and_then S _ (then S r₀ d₁.reach) (omega arith) (omega arith)
        (ih c (scene_after S d₁) (waiting_after S d₁) (behind_d d (suc p)) w₁ b₁ d₁.r' qc.0 (fits_after S d₁ (size_c c) _ f₀ (omega arith)) (omega arith))
        (λ u w₂ b₂ s₂ d₂.
        is_done S (1 + s₁ + s₂ + 1) (record {
          reach = also S Leave nd (then S (then S r₀ d₁.reach) d₂.reach) qc.1.0 (omega arith) refl;
          most = omega arith;
          least = omega arith;
          same = length-take (length w.cells) w₂.cells ∙ omega arith;
          inside = tt;
        })))

  next : (g : ℕ) → SimC S g → SimC S (suc g)
  unfolding eval_c
  next g ih t Γ K p w zero r placed fits hb = is_cut S (omega arith)
  next g ih (assign nd a c) Γ K p w (suc b) r placed fits hb = assign_case g ih Γ K p w b r (omega arith) nd a c placed fits
  next g ih (output nd a) Γ K p w (suc b) r placed fits hb = output_case g ih Γ K p w b r (omega arith) nd a placed fits
  next g ih (when nd a c d) Γ K p w (suc b) r placed fits hb =
      choosing S g (sim_e S g) commands a_command (eval_c S.rules g) ih Γ K p w b r (omega arith) nd a c d placed.named placed.stands fits
  next g ih (while nd a c) Γ K p w (suc b) r placed fits hb = while_case g ih Γ K p w b r (omega arith) nd a c placed fits
  next g ih (block nd d c) Γ K p w (suc b) r placed fits hb = block_case g ih Γ K p w b r (omega arith) nd d c placed fits
  next g ih (sequence nd a c) Γ K p w (suc b) r placed fits hb = sequence_case g ih Γ K p w b r (omega arith) nd a c placed fits
  next g ih (procedure_call nd f a) Γ K p w (suc b) r placed fits hb =
      let n = placed.named.0 in
      calling S g (sim_e S g) commands a_command (eval_c S.rules g) ih Γ K p w b r (omega arith) as_procedure procedure_body (λ y t rest next. refl) nd f a Procedure n _
      (procedure_at S.code _ _ _ _ (resolve S.code f n.0 Procedure Γ.corresponds n.1)) placed.named.1 placed.stands fits

  pub sim_c : (g : ℕ) → SimC S g
  unfolding eval_c
  sim_c zero = λ t Γ K p w b r placed fits hb. is_cut S (omega arith)
  sim_c (suc g) = next g (sim_c g)
