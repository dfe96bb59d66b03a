-- The whole program: from the simulation to the statements of the agreement. What the meaning within k visits says of the machine is
-- set beside what the machine does in s steps, where k is so large that the machine has made more than s steps by then.
use Rattle.std.proofs.Common.{◌≡◌, ℕ, ◌+◌, ◌-◌, ◌*◌, ◌≤◌, [], length, sym, refl, ap, ◌∙◌, subst, arith}
use native.Mathlib.Decide.{dec_le}
use Rattle.vocabulary.specs.declared.code.Instruction.TheVariants.{Halt}
use Rattle.vocabulary.specs.declared.end.End.{End}
use Rattle.vocabulary.specs.declared.end.End.TheVariants.{Halt as Halted}
use Rattle.vocabulary.specs.World.{World, Rules}
use Rattle.language.specs.Tree.{Command, node_c, size_c}
use Rattle.language.specs.Names.{NamedC}
use Rattle.language.specs.Translation.{behind_c, program}
use Rattle.language.specs.Outcomes.{Outcome}
use Rattle.language.specs.Outcomes.Outcome.{done, ended, cut, lost}
use Rattle.language.specs.Meaning.{Course, course_of, meaning, eval_c}
use Rattle.language.specs.Meaning.Course.{finished, unfinished, meaningless}
use Rattle.machine.specs.State.{Config, State}
use Rattle.machine.specs.State.State.{running, halted, broken}
use Rattle.machine.specs.Machine.{iterate, start}
use Rattle.agreement.specs.Agreement.{Within, FirstPartOf, Agreement}
use Rattle.agreement.proofs.Steps.{Setup, Roomy, Reach, onward, halted-stays, broken-stays, taken_until_ended, taken-while-running, also}
use Rattle.agreement.proofs.Placed.{program-stands}
use Rattle.agreement.proofs.Scene.{Scene, Waiting}
use Rattle.agreement.proofs.Scene.Corresponds.{nil}
use Rattle.agreement.proofs.Simulation.{a_command, Does}
use Rattle.agreement.proofs.Commands.{sim_c}
use Rattle.agreement.proofs.Visits.{used_up}
use Rattle.agreement.proofs.Growth.{Grew, grew_nothing, grew_first_part, Since, grows}

module _ (R : Rules) (t : Command) (w : World) (fits : size_c t ≤ R.limit) where
  -- the run of the program, with as much room as the tree has nodes
  abbrev setup : Setup
  setup = record { rules = R; code = program t; room = size_c t; fits = fits }

  abbrev state : ℕ → State
  state s = iterate R (program t) s (start w)

  -- how a course shows in the machine's state
  abbrev Shows : Course → State → Type 0
  Shows (finished e n w' b) y = y ≡ halted e n w'
  Shows (unfinished w') y = (c : Config) × (y ≡ running c) × (c.world ≡ w')
  Shows meaningless y = ⊥

  -- and after how many steps, for k visits
  abbrev Lasts : ℕ → ℕ → Course → Type 0
  Lasts k s (finished e n w' b) = s + 3 * b ≤ 3 * k + 1
  Lasts k s (unfinished w') = k ≤ 2 * s + size_c t
  Lasts k s meaningless = ⊥

  pub record Says (k : ℕ) (V : Course) : Type 0 where
    pub steps : ℕ
    pub last : State
    pub reach : Reach setup (start w) steps last
    pub shows : Shows V last
    pub lasts : Lasts k steps V

  says : NamedC t [] → w.cells ≡ [] → (k : ℕ) → Says k (meaning R t w k)
  unfolding meaning
  says named empty k =
      let h = ap length empty in
      from (eval_c R k t [] w k)
      (sim_c setup k t Γ K 0 w k 0 (program-stands t named).0
      (record { inside = tt; values = omega arith; used = omega arith; dump = omega arith; cells = omega arith; enough = omega arith }) (omega arith))
    where
      Γ : Scene (program t)
      Γ = record { scope = []; bindings = []; environment = []; corresponds = nil }

      K : Waiting
      K = record { values = []; used = 0; dump = [] }

      from : (o : Outcome (Unit {0})) → Does setup a_command Γ K 0 (behind_c t 0) w k (size_c t) o → Says k (course_of (node_c t) o)
      from (done u w' b) q =
          let d = q.told.1 in let h = ap length empty in record {
            steps = q.told.0 + 1;
            last = halted Halted (node_c t) w';
            reach = also setup Halt (node_c t) d.reach (program-stands t named).1 (omega arith) refl;
            shows = refl;
            lasts = omega arith;
          }
      from (ended e n w' b) q = let l = q.told.2 in record { steps = q.told.0; last = halted e n w'; reach = q.told.1; shows = refl; lasts = omega arith }
      from (cut w') q = let l = q.told.4 in record {
        steps = q.told.0;
        last = running q.told.1;
        reach = q.told.2;
        shows = (q.told.1, refl, q.told.3);
        lasts = omega arith;
      }
      from lost q = absurd q.told

  -- what there is to say of each state that the machine comes to
  abbrev Fate : State → Type 0
  Fate (running c) = Within (size_c t) c × ((k : ℕ) × FirstPartOf w c.world (meaning R t w k))
  Fate (halted e n w') = (k : ℕ) × (b : ℕ) × (meaning R t w k ≡ finished e n w' b)
  Fate broken = ⊥

  since : (s d s₁ : ℕ) (c : Config) → state s ≡ running c → s₁ ≡ s + d → Since c.world (state s₁)
  since s d s₁ c h e =
      subst (Since c.world) (sym (onward R (program t) s d s₁ (start w) _ h e)) (grows R c.world (program t) d (running c) (grew_nothing c.world))

  first_part : (s d s₁ : ℕ) (c : Config) (V : Course) (y : State) → state s ≡ running c → s₁ ≡ s + d → state s₁ ≡ y → Shows V y → FirstPartOf w c.world V
  first_part s d s₁ c (finished e n w₁ b) y h x z v =
      grew_first_part w c.world w₁ (subst (Since w) h (grows R w (program t) s (start w) (grew_nothing w))) (subst (Since c.world) (z ∙ v) (since s d s₁ c h x))
  first_part s d s₁ c (unfinished w₁) y h x z v =
      grew_first_part w c.world w₁ (subst (Since w) h (grows R w (program t) s (start w) (grew_nothing w)))
      (subst (Grew c.world) v.2 (subst (Since c.world) (z ∙ v.1) (since s d s₁ c h x)))
  first_part s d s₁ c meaningless y h x z v = absurd v

  -- the state at s, when the course at k shows at a state that is no earlier
  fate-before : (s d s₁ k : ℕ) (x : State) (V : Course) → state s ≡ x → s₁ ≡ s + d → meaning R t w k ≡ V → Shows V (state s₁) → Roomy (size_c t) x → Fate x
  fate-before s d s₁ k (running c) V h e m v roomy = (roomy, (k, subst (FirstPartOf w c.world) (sym m) (first_part s d s₁ c V (state s₁) h e refl v)))
  fate-before s d s₁ k (halted f n u) V h e m v roomy = same V m v
    where
      stays : state s₁ ≡ halted f n u
      stays = onward R (program t) s d s₁ (start w) _ h e ∙ halted-stays R (program t) d f n u

      same : (V : Course) → meaning R t w k ≡ V → Shows V (state s₁) → Fate (halted f n u)
      same (finished f₁ n₁ u₁ b) m v = let z : halted f n u ≡ halted f₁ n₁ u₁ = sym stays ∙ v in (k, b, cc)
      same (unfinished u₁) m v = let y : running v.0 ≡ halted f n u = sym v.1 ∙ stays in let z : ◌≡◌ {A = ℕ} 0 1 = cc y in absurd (omega arith)
      same meaningless m v = absurd v
  fate-before s d s₁ k broken V h e m v roomy = none V v
    where
      stays : state s₁ ≡ broken
      stays = onward R (program t) s d s₁ (start w) _ h e ∙ broken-stays R (program t) d

      none : (V : Course) → Shows V (state s₁) → ⊥
      none (finished f n u b) v = let y : broken ≡ halted f n u = sym stays ∙ v in let z : ◌≡◌ {A = ℕ} 0 1 = cc y in omega arith
      none (unfinished u) v = let y : running v.0 ≡ broken = sym v.1 ∙ stays in let z : ◌≡◌ {A = ℕ} 0 1 = cc y in omega arith
      none meaningless v = v

  module _ (told : (k : ℕ) → Says k (meaning R t w k)) where
    -- so many visits that the machine has made more than s steps, unless it has ended
    abbrev plenty : ℕ → ℕ
    plenty s = 2 * s + size_c t + 3

    fate : (s : ℕ) → Fate (state s)
    fate s = go (meaning R t w (plenty s)) refl (told (plenty s))
      where
        go : (V : Course) → meaning R t w (plenty s) ≡ V → Says (plenty s) V → Fate (state s)
        go V m q =
            elim (dec_le q.steps s) [
              | yes l ↦ over V m q l
              | no l ↦ fate-before s (q.steps - s) q.steps (plenty s) (state s) V refl (omega arith) m (subst (Shows V) (sym q.reach.by) q.shows) (q.reach.via s (omega arith))
            ]
          where
            over : (V : Course) → meaning R t w (plenty s) ≡ V → (q : Says (plenty s) V) → q.steps ≤ s → Fate (state s)
            over (finished e n u b) m q l =
                subst Fate (sym (onward R (program t) q.steps (s - q.steps) s (start w) _ (q.reach.by ∙ q.shows) (omega arith) ∙ halted-stays R (program t) (s - q.steps) e n u))
                (plenty s, b, m)
            over (unfinished u) m q l = let f = q.lasts in absurd (omega arith)
            over meaningless m q l = absurd q.shows

    soon : (v : ℕ) (e : End) (n : ℕ) (w' : World) → meaning R t w v ≡ finished e n w' 0 → state (3 * v + 1) ≡ halted e n w'
    soon v e n w' h =
        let q = subst (Says v) h (told v) in
        let l : q.steps ≤ 3 * v + 1 = (let f = q.lasts in omega arith) in
        onward R (program t) q.steps (3 * v + 1 - q.steps) (3 * v + 1) (start w) _ (q.reach.by ∙ q.shows) (omega arith) ∙ halted-stays R (program t) (3 * v + 1 - q.steps) e n w'

    meant : (k : ℕ) → meaning R t w k ≡ meaningless → ⊥
    meant k h = (subst (Says k) h (told k)).shows

pub agreement : Agreement
agreement R t w named fits empty =
    let told = says R t w fits named empty in record {
      soon = soon R t w fits told;
      steps = λ v e n w' h. taken_until_ended R (program t) (3 * v + 1) (start w) e n w' (soon R t w fits told v e n w' h);
      granted = λ s c h. taken-while-running R (program t) s (start w) c h;
      alike = λ s e n w' h. (let f = subst (Fate R t w fits) h (fate R t w fits told s) in used_up R t w f.0 f.1 e n w' f.2);
      first = λ s c h. (subst (Fate R t w fits) h (fate R t w fits told s)).1;
      meant = meant R t w fits told;
      unbroken = λ s h. subst (Fate R t w fits) h (fate R t w fits told s);
      room = λ s c h. (subst (Fate R t w fits) h (fate R t w fits told s)).0;
    }
