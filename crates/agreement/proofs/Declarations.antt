-- The simulation of declarations: a lemma for each form, and then the induction on the depth. Every simple declaration adds one binding to
-- scope, source and machine alike, which keeps the three in step; a variable adds one cell too.
use Rattle.std.proofs.Common.{◌≡◌, ℕ, zero, suc, ◌+◌, ◌*◌, ◌<◌, ◌≤◌, List, [], ◌∷◌, ◌++◌, length, refl, ◌∙◌, arith, length-append}
use Rattle.vocabulary.specs.declared.code.Instruction.{Instruction}
use Rattle.vocabulary.specs.declared.code.Instruction.TheVariants.{Jump, Ret, Bind, New, Clos}
use Rattle.vocabulary.specs.declared.value.Plain.{Plain}
use Rattle.vocabulary.specs.declared.value.Value.{Value}
use Rattle.vocabulary.specs.declared.value.Value.TheVariants.{Plain as plain, Location}
use Rattle.vocabulary.specs.World.{World, Rules, with_cells}
use Rattle.language.specs.declared.name.Role.TheVariants.{Value as value_role}
use Rattle.language.specs.Tree.{Expression, Declaration, size_e, size_d}
use Rattle.language.specs.Tree.Declaration.{constant, variable, procedure, function, pair}
use Rattle.language.specs.Scope.{entry, scope_after, scope_inside}
use Rattle.language.specs.Names.{NamedE}
use Rattle.language.specs.Translation.{one, plain_code, code_e, behind_e, behind_d, plain_end}
use Rattle.language.specs.Outcomes.{Denoted, bind, plainly}
use Rattle.language.specs.Outcomes.Binding.{binding}
use Rattle.language.specs.Outcomes.Denoted.{value, procedure_body, function_body}
use Rattle.language.specs.Outcomes.Outcome.{done}
use Rattle.language.specs.Meaning.{eval_e, eval_d}
use Rattle.machine.specs.declared.tables.Bound.{Bound}
use Rattle.machine.specs.declared.tables.Bound.TheVariants.{Holds, Body}
use Rattle.machine.specs.State.{Config, config, ahead, sides}
use Rattle.machine.specs.State.State.{running}
use Rattle.machine.specs.Instructions.{with_stack, with_store}
use Rattle.machine.specs.Machine.{exec}
use Rattle.agreement.proofs.Steps.{Setup, Reach, stay, then, also}
use Rattle.agreement.proofs.Placed.{Sort, expressions, plains, commands, declarations, Stands, Placed, part}
use Rattle.agreement.proofs.Scene.{BodyAt, Match, role_of, Scene, Waiting, Inside, DenotesInside, all_inside_more, weight, Fits, fits_part}
use Rattle.agreement.proofs.Scene.Corresponds.{more}
use Rattle.agreement.proofs.Instructions.{noting, with_room, bind_with_room}
use Rattle.agreement.proofs.Simulation.{is_done, is_cut, and_then, lastly, at, scene_after, waiting_after, fits_after, Declares, SimD}
use Rattle.agreement.proofs.Shared.{sim_plain}
use Rattle.agreement.proofs.Expressions.{sim_e}

-- an instruction pops a value and binds v: the next position, the values below, one more binding, and at most one more cell
record Binds (R : Rules) (i : Instruction) (nd : ℕ) (c : Config) (below : List Value) (v : Value) (w : World) : Type 0 where
  does : exec R i nd c ≡ running (config (suc c.position) below (Holds v ∷ c.environment) (suc c.bindings) c.dump w)
  kept : length c.world.cells ≤ length w.cells
  few : length w.cells ≤ suc (length c.world.cells)
  inside : Inside (length w.cells) v

module _ (S : Setup) where
  module _ (Γ : Scene S.code) (K : Waiting) (p : ℕ) (w : World) (b r : ℕ) where
    -- one new binding, and perhaps one new cell
    one_binding : (q z x : ℕ) (th : Denoted) (bound : Bound) (w₁ : World) (c s : ℕ) → Fits S.room Γ.bindings K w r z → weight th < z →
        Match S.code Γ.scope th bound → DenotesInside (length w₁.cells) th →
        Reach S (at S Γ K p w) s (running (config q K.values (bound ∷ Γ.environment) (suc K.used) K.dump w₁)) →
        s + 3 * c ≤ 3 * b → b + 1 ≤ 2 * s + c → length w.cells ≤ length w₁.cells → length w₁.cells ≤ suc r →
        Declares S Γ K p q w b r z (entry x (role_of th) ∷ Γ.scope) (done (binding x th ∷ Γ.bindings) w₁ c)
    one_binding q z x th bound w₁ c s fits lighter match inside reach most least kept few = is_done S s (record {
      environment = bound ∷ Γ.environment;
      used = suc K.used;
      r' = suc r;
      corresponds = more x th bound match Γ.corresponds;
      reach = reach;
      most = most;
      least = least;
      kept = kept;
      inside = (inside, all_inside_more _ _ kept Γ.bindings fits.inside);
      few_used = omega arith;
      few_cells = few;
      higher = omega arith;
      enough = omega arith;
    })

    -- a routine of a sort: CLOS binds the position of its body, and a jump leads around that
    routine_case : {T : Type 0} (σ : Sort T) (nd x y : ℕ) (t : T) (th : Denoted) (c : ℕ) → b ≡ suc c → weight th ≡ σ.size t → DenotesInside (length w.cells) th →
        ((bound : Bound) → BodyAt σ S.code t (scope_inside y Γ.scope) bound → Match S.code Γ.scope th bound) →
        σ.Named t (scope_inside y Γ.scope) →
        (let q = suc (suc p) in
        Stands S.code p (one (Clos q) nd ++ (one (Jump (suc (σ.behind t q))) nd ++ (σ.code t (scope_inside y Γ.scope) q ++ one Ret nd))) →
        Fits S.room Γ.bindings K w r (suc (σ.size t)) →
        Declares S Γ K p (suc (σ.behind t q)) w b r (suc (σ.size t)) (entry x (role_of th) ∷ Γ.scope) (done (binding x th ∷ Γ.bindings) w c))
    routine_case σ nd x y t th c e weighs inside match named stands fits =
        let here : Config = config p K.values Γ.environment K.used K.dump w in
        let q = part S.code σ t (scope_inside y Γ.scope) (suc (suc p)) _ named stands.1.1 in
        one_binding _ _ x th (Body (suc (suc p))) w c 2 fits (omega arith)
        (match _ (record { start = suc (suc p); node = nd; is = refl; placed = q.0; returns = q.1.0 })) inside
        (also S _ nd (also S _ nd (stay S) stands.0 (omega arith) (noting nd (sides here) (bind_with_room S.rules.limit (Body (suc (suc p))) (ahead here) (omega arith)))) stands.1.0 (omega arith) refl)
        (omega arith) (omega arith) (omega arith) (omega arith)

  module _ (g : ℕ) (Γ : Scene S.code) (K : Waiting) (p : ℕ) (w : World) (b r : ℕ) (hb : b ≤ g) where
    -- the declaration t, begun with one visit more than b
    abbrev Claim : Declaration → Type 0
    Claim t = Placed declarations S.code t Γ.scope p → Fits S.room Γ.bindings K w r (size_d t) →
        Declares S Γ K p (behind_d t p) w (suc b) r (size_d t) (scope_after t Γ.scope) (eval_d S.rules (suc g) t Γ.bindings w (suc b))

    -- constant and variable: a plain value, and an instruction that binds a value made from it, in a cell perhaps
    binding_case : (i : Instruction) (nd x : ℕ) (a : Expression) (bound : Plain → World → Value) (after : Plain → World → World) →
        NamedE a Γ.scope → Stands S.code p (plain_code a (code_e a Γ.scope p) ++ one i nd) → Fits S.room Γ.bindings K w r (suc (size_e a)) →
        ((v : Plain) (w₁ : World) → length w₁.cells ≡ length w.cells →
        Binds S.rules i nd (config (plain_end a (behind_e a p)) (plain v ∷ K.values) Γ.environment K.used K.dump w₁) K.values (bound v w₁) (after v w₁)) →
        Declares S Γ K p (suc (plain_end a (behind_e a p))) w (suc b) r (suc (size_e a)) (entry x value_role ∷ Γ.scope)
        (bind (plainly (eval_e S.rules g a Γ.bindings w b)) λ v w₁ b₁. done (binding x (value (bound v w₁)) ∷ Γ.bindings) (after v w₁) b₁)
    binding_case i nd x a bound after visible stands fits binds =
        let qa = part S.code plains a Γ.scope p _ visible stands in
        and_then S _ (stay S) (omega arith) (omega arith)
        (sim_plain S g (sim_e S g) a Γ K p w b r qa.0 (fits_part w (size_e a) fits refl (omega arith)) hb)
        (λ v w₁ b₁ s₁ d₁.
        let e = binds v w₁ d₁.same in
        one_binding Γ K p w (suc b) r _ _ x (value (bound v w₁)) (Holds (bound v w₁)) (after v w₁) b₁ (s₁ + 1) fits (omega arith) refl e.inside
        (also S i nd d₁.reach qa.1.0 (omega arith) e.does) (omega arith) (omega arith) (omega arith) (omega arith))

    constant_case : (nd x : ℕ) (a : Expression) → Claim (constant nd x a)
    unfolding eval_d
    constant_case nd x a placed fits =
        binding_case Bind nd x a (λ v w₁. plain v) (λ v w₁. w₁) placed.named placed.stands fits
        (λ v w₁ e.
        let here : Config = config (plain_end a (behind_e a p)) (plain v ∷ K.values) Γ.environment K.used K.dump w₁ in record {
          does = noting nd (sides here) (bind_with_room S.rules.limit (Holds (plain v)) (with_stack K.values (ahead here)) (omega arith));
          kept = omega arith;
          few = omega arith;
          inside = tt;
        })

    variable_case : (nd x : ℕ) (a : Expression) → Claim (variable nd x a)
    unfolding eval_d
    variable_case nd x a placed fits =
        binding_case New nd x a (λ v w₁. Location (length w₁.cells)) (λ v w₁. with_cells w₁ (w₁.cells ++ (v ∷ []))) placed.named placed.stands fits
        (λ v w₁ e.
        let here : Config = config (plain_end a (behind_e a p)) (plain v ∷ K.values) Γ.environment K.used K.dump w₁ in
        let longer : length (w₁.cells ++ (v ∷ [])) ≡ length w₁.cells + 1 = length-append w₁.cells (v ∷ []) in record {
          does = noting nd (sides here) (with_room (length w₁.cells) S.rules.limit _ (omega arith)
              ∙ bind_with_room S.rules.limit (Holds (Location (length w₁.cells))) (with_store (w₁.cells ++ (v ∷ [])) (with_stack K.values (ahead here))) (omega arith));
          kept = omega arith;
          few = omega arith;
          inside = omega arith;
        })

    pair_case : SimD S g → (nd : ℕ) (a c : Declaration) → Claim (pair nd a c)
    unfolding eval_d
    pair_case ih nd a c placed fits =
        let qa = part S.code declarations a Γ.scope p _ placed.named.0 placed.stands in
        and_then S _ (stay S) (omega arith) (omega arith)
        (ih a Γ K p w b r qa.0 (fits_part w (size_d a) fits refl (omega arith)) hb)
        (λ bs w₁ b₁ s₁ d₁.
        lastly S d₁.reach (omega arith) (omega arith)
        (ih c (scene_after S d₁) (waiting_after S d₁) (behind_d a p) w₁ b₁ d₁.r' (record { named = placed.named.1; stands = qa.1 })
        (fits_after S d₁ (size_d c) _ fits (omega arith)) (omega arith))
        (λ bs₂ w₂ b₂ s₂ d₂. (
          s₁ + s₂,
          record {
            environment = d₂.environment;
            used = d₂.used;
            r' = d₂.r';
            corresponds = d₂.corresponds;
            reach = then S d₁.reach d₂.reach;
            most = omega arith;
            least = omega arith;
            kept = omega arith;
            inside = d₂.inside;
            few_used = d₂.few_used;
            few_cells = d₂.few_cells;
            higher = omega arith;
            enough = omega arith;
          },
        )))

  next : (g : ℕ) → SimD S g → SimD S (suc g)
  unfolding eval_d
  next g ih t Γ K p w zero r placed fits hb = is_cut S (omega arith)
  next g ih (constant nd x a) Γ K p w (suc b) r placed fits hb = constant_case g Γ K p w b r (omega arith) nd x a placed fits
  next g ih (variable nd x a) Γ K p w (suc b) r placed fits hb = variable_case g Γ K p w b r (omega arith) nd x a placed fits
  next g ih (procedure nd x t y) Γ K p w (suc b) r placed fits hb =
      routine_case Γ K p w (suc b) r commands nd x y t (procedure_body y t) b refl refl tt (λ bound m. m) placed.named placed.stands fits
  next g ih (function nd x t y) Γ K p w (suc b) r placed fits hb =
      routine_case Γ K p w (suc b) r expressions nd x y t (function_body y t) b refl refl tt (λ bound m. m) placed.named placed.stands fits
  next g ih (pair nd a c) Γ K p w (suc b) r placed fits hb = pair_case g Γ K p w b r (omega arith) ih nd a c placed fits

  pub sim_d : (g : ℕ) → SimD S g
  unfolding eval_d
  sim_d zero = λ t Γ K p w b r placed fits hb. is_cut S (omega arith)
  sim_d (suc g) = next g (sim_d g)
