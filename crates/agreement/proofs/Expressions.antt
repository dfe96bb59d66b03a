-- The simulation of expressions: a lemma for each form that has one of its own, and then the induction on the depth. The invariant is
-- that of Scene, the statement that of Simulation.
use Rattle.std.proofs.Common.{◌≡◌, ℕ, zero, suc, ◌+◌, ◌*◌, ◌≤◌, List, [], ◌∷◌, length, Ok, Err, sym, refl, ap, ◌∙◌, subst, arith}
use Rattle.vocabulary.specs.declared.code.Instruction.{Instruction}
use Rattle.vocabulary.specs.declared.code.Instruction.TheVariants.{Num, Truth as TruthWord, Read, Look, Op}
use Rattle.vocabulary.specs.declared.code.Operation.{Operation}
use Rattle.vocabulary.specs.declared.end.End.TheVariants.{Empty}
use Rattle.vocabulary.specs.declared.item.Item.{Item}
use Rattle.vocabulary.specs.declared.item.Item.TheVariants.{Reading, Fault}
use Rattle.vocabulary.specs.declared.value.Plain.{Plain}
use Rattle.vocabulary.specs.declared.value.Plain.TheVariants.{Number, Truth}
use Rattle.vocabulary.specs.declared.value.Value.{Value}
use Rattle.vocabulary.specs.declared.value.Value.TheVariants.{Plain as plain}
use Rattle.vocabulary.specs.Numbers.{Answer}
use Rattle.vocabulary.specs.World.{World, with_feed}
use Rattle.language.specs.declared.name.Role.TheVariants.{Value as value_role, Function}
use Rattle.language.specs.Tree.{Expression, size_e}
use Rattle.language.specs.Tree.Expression.{number, truth, read, name, operation, function_call, choice}
use Rattle.language.specs.Translation.{behind_e, plain_end}
use Rattle.language.specs.Outcomes.{find, valued, as_function, taken, answered}
use Rattle.language.specs.Outcomes.Denoted.{function_body}
use Rattle.language.specs.Outcomes.Outcome.{done}
use Rattle.language.specs.Meaning.{eval_e}
use Rattle.machine.specs.State.{Config, config, ahead, sides, ports, noted, fed_in}
use Rattle.machine.specs.State.Moved.{moved}
use Rattle.machine.specs.State.State.{halted}
use Rattle.machine.specs.Instructions.{push, read as read_item, look, answer}
use Rattle.machine.specs.Machine.{exec}
use Rattle.agreement.proofs.Steps.{Setup, Is, Reach, stay, then, also}
use Rattle.agreement.proofs.Placed.{expressions, plains, Placed, part, operand_is}
use Rattle.agreement.proofs.Scene.{Scene, Waiting, on, Inside, Fits, fits_part, fits_on}
use Rattle.agreement.proofs.Lookup.{resolve, value_at, function_at}
use Rattle.agreement.proofs.Instructions.{noting, push_with_room}
use Rattle.agreement.proofs.Simulation.{a_value, is_done, is_ended, is_cut, and_then, at, Does, SimE}
use Rattle.agreement.proofs.Shared.{a_node_at_least, sim_plain, choosing, calling}

module _ (S : Setup) where
  module _ (Γ : Scene S.code) (K : Waiting) (p : ℕ) (w : World) (b r : ℕ) where
    abbrev here : Config
    here = config p K.values Γ.environment K.used K.dump w

    -- one instruction that pushes a value and may take from the feed
    pushes : (i : Instruction) (nd : ℕ) (v : Value) (f : List Item) → Fits S.room Γ.bindings K w r 1 → Is S.code p i nd → Inside (length w.cells) v →
        exec S.rules i nd here ≡ noted nd (moved (push S.rules.limit v (ahead here)) (ports f w.strip w.space)) →
        Does S a_value Γ K p (suc p) w (suc b) 1 (done v (with_feed w f) b)
    pushes i nd v f fits is inside e = is_done S 1 (record {
      reach = also S i nd (stay S) is (omega arith) (e ∙ noting nd (ports f w.strip w.space) (push_with_room S.rules.limit v (ahead here) (omega arith)));
      most = omega arith;
      least = omega arith;
      same = refl;
      inside = inside;
    })

    reads : (nd : ℕ) (f : List Item) → w.feed ≡ f → exec S.rules Read nd here ≡ noted nd (fed_in (read_item S.rules.limit f (ahead here)) (sides here))
    reads nd f e = ap (λ l. noted nd (fed_in (read_item S.rules.limit l (ahead here)) (sides here))) e

    read_case : (nd : ℕ) (f : List Item) → w.feed ≡ f → Fits S.room Γ.bindings K w r 1 → Is S.code p Read nd →
        Does S a_value Γ K p (suc p) w (suc b) 1 (taken nd f w b)
    read_case nd [] e fits is =
        is_ended S 1 (also S Read nd (stay S) is (omega arith) (reads nd [] e ∙ ap (λ l. halted Empty nd (with_feed w l)) (sym e))) (omega arith)
    read_case nd (Reading z ∷ f) e fits is = pushes Read nd (plain (Number z)) f fits is tt (reads nd _ e)
    read_case nd (Fault j ∷ f) e fits is = is_ended S 1 (also S Read nd (stay S) is (omega arith) (reads nd _ e)) (omega arith)

    name_case : (nd x : ℕ) → Fits S.room Γ.bindings K w r 1 → Placed expressions S.code (name nd x) Γ.scope p →
        Does S a_value Γ K p (suc p) w (suc b) 1 (valued (find Γ.bindings x) w b)
    name_case nd x fits placed =
        let n = placed.named in
        let q = value_at S.code _ _ _ _ (resolve S.code x n.0 value_role Γ.corresponds n.1) in
        subst (λ f. Does S a_value Γ K p (suc p) w (suc b) 1 (valued f w b)) (sym q.is)
        (pushes (Look n.0) nd q.value w.feed fits (operand_is S.code Look p nd Γ.scope x value_role n placed.stands.0) (q.inside _ fits.inside)
        (noting nd (sides here) (ap (λ o. look S.rules.limit o (ahead here)) q.slot)))

  module _ (g : ℕ) (ih : SimE S g) (Γ : Scene S.code) (K : Waiting) (p : ℕ) (w : World) (b r : ℕ) (hb : b ≤ g) where
    -- the expression t, begun with one visit more than b
    abbrev Claim : Expression → Type 0
    Claim t = Placed expressions S.code t Γ.scope p → Fits S.room Γ.bindings K w r (size_e t) →
        Does S a_value Γ K p (behind_e t p) w (suc b) (size_e t) (eval_e S.rules (suc g) t Γ.bindings w (suc b))

    operation_case : (nd : ℕ) (o : Operation) (a c : Expression) → Claim (operation nd o a c)
    unfolding eval_e
    operation_case nd o a c placed fits =
        let p₁ = plain_end a (behind_e a p) in
        let na = a_node_at_least a in
        let qa = part S.code plains a Γ.scope p _ placed.named.0 placed.stands in
        let qc = part S.code plains c Γ.scope p₁ _ placed.named.1 qa.1 in
        and_then S _ (stay S) (omega arith) (omega arith)
        (sim_plain S g ih a Γ K p w b r qa.0 (fits_part w (size_e a) fits refl (omega arith)) hb)
        (λ x w₁ b₁ s₁ d₁.
        and_then S _ d₁.reach (omega arith) (omega arith)
        (sim_plain S g ih c Γ (on (plain x) K) p₁ w₁ b₁ (suc r) qc.0 (fits_on w₁ (size_e c) (plain x) fits d₁.same (omega arith)) (omega arith))
        (λ y w₂ b₂ s₂ d₂. result x y (S.rules.operate o (plain x) (plain y)) w₂ b₂ (s₁ + s₂ + 1)
        (also S (Op o) nd (then S d₁.reach d₂.reach) qc.1.0 (omega arith) refl) (omega arith) (omega arith) (d₂.same ∙ d₁.same)))
      where
        result : (x y : Plain) (α : Answer) (w₂ : World) (b₂ s : ℕ) →
            Reach S (at S Γ K p w) s (noted nd (moved (answer α K.values (ahead (config (plain_end c (behind_e c (plain_end a (behind_e a p)))) (plain y ∷ plain x ∷ K.values) Γ.environment K.used K.dump w₂))) (ports w₂.feed w₂.strip w₂.space))) →
            s + 1 + 3 * b₂ ≤ 3 * suc b → suc b + 1 ≤ 2 * s + b₂ → length w₂.cells ≡ length w.cells →
            Does S a_value Γ K p (behind_e (operation nd o a c) p) w (suc b) (size_e (operation nd o a c)) (answered nd α w₂ b₂)
        result x y (Ok q) w₂ b₂ s re most least e = is_done S s (record { reach = re; most = most; least = least; same = e; inside = tt })
        result x y (Err n) w₂ b₂ s re most least e = is_ended S s re (omega arith)

  next : (g : ℕ) → SimE S g → SimE S (suc g)
  unfolding eval_e
  next g ih t Γ K p w zero r placed fits hb = is_cut S (omega arith)
  next g ih (number nd z) Γ K p w (suc b) r placed fits hb = pushes Γ K p w b r (Num z) nd (plain (Number z)) w.feed fits placed.stands.0 tt refl
  next g ih (truth nd t) Γ K p w (suc b) r placed fits hb = pushes Γ K p w b r (TruthWord t) nd (plain (Truth t)) w.feed fits placed.stands.0 tt refl
  next g ih (read nd) Γ K p w (suc b) r placed fits hb = read_case Γ K p w b r nd w.feed refl fits placed.stands.0
  next g ih (name nd x) Γ K p w (suc b) r placed fits hb = name_case Γ K p w b r nd x fits placed
  next g ih (operation nd o a c) Γ K p w (suc b) r placed fits hb = operation_case g ih Γ K p w b r (omega arith) nd o a c placed fits
  next g ih (function_call nd f a) Γ K p w (suc b) r placed fits hb =
      let n = placed.named.0 in
      calling S g ih expressions a_value (eval_e S.rules g) ih Γ K p w b r (omega arith) as_function function_body (λ y t rest next. refl) nd f a Function n _
      (function_at S.code _ _ _ _ (resolve S.code f n.0 Function Γ.corresponds n.1)) placed.named.1 placed.stands fits
  next g ih (choice nd a c d) Γ K p w (suc b) r placed fits hb =
      choosing S g ih expressions a_value (eval_e S.rules g) ih Γ K p w b r (omega arith) nd a c d placed.named placed.stands fits

  pub sim_e : (g : ℕ) → SimE S g
  unfolding eval_e
  sim_e zero = λ t Γ K p w b r placed fits hb. is_cut S (omega arith)
  sim_e (suc g) = next g (sim_e g)
