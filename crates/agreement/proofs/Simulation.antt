-- The statement of the simulation, and the two lemmas that carry all sequencing.
--
-- `Post D x b h o`: o is what the source came to with b visits granted, x is the machine at the start of the same work.
--   done    after some number s of steps D holds: the machine stands behind the code, with the result on its tables, and
--           s + spare + 3 × visits left ≤ 3 × b  (spare is 1 for an expression, whose DEREF may follow, and else 0)
--           b + 1 ≤ 2 × s + visits left
--   ended   the machine has ended alike after s steps, and s + 3 × visits left ≤ 3 × b
--   cut     the machine runs with the same world after s steps, and b ≤ 2 × s + h, where h is the number of nodes that can
--           have begun without a step yet: those of the tree and of the bodies that it can call
--   lost    never
use Rattle.std.proofs.Common.{◌≡◌, ℕ, suc, ◌+◌, ◌*◌, ◌≤◌, List, ◌∷◌, length, refl, arith}
use Rattle.vocabulary.specs.declared.end.End.{End}
use Rattle.vocabulary.specs.declared.value.Plain.{Plain}
use Rattle.vocabulary.specs.declared.value.Value.{Value}
use Rattle.vocabulary.specs.declared.value.Value.TheVariants.{Plain as plain}
use Rattle.vocabulary.specs.World.{World}
use Rattle.language.specs.declared.name.Entry.{Entry}
use Rattle.language.specs.Tree.{Declaration, size_d}
use Rattle.language.specs.Scope.{scope_after}
use Rattle.language.specs.Translation.{behind_d}
use Rattle.language.specs.Outcomes.{Binding, Outcome, bind, plainly}
use Rattle.language.specs.Outcomes.Outcome.{done, ended, cut, lost}
use Rattle.language.specs.Meaning.{eval_e, eval_c, eval_d}
use Rattle.machine.specs.declared.tables.Bound.{Bound}
use Rattle.machine.specs.State.{Config, config, State}
use Rattle.machine.specs.State.State.{running, halted}
use Rattle.agreement.proofs.Steps.{Setup, Reach, stay, then}
use Rattle.agreement.proofs.Placed.{Sort, expressions, plains, commands, declarations, Placed}
use Rattle.agreement.proofs.Scene.{Corresponds, Scene, Waiting, Inside, AllInside, bodies, Fits}

-- what a kind of work leaves: at most one value more, a step to spare, and locations among the cells
pub record Work (A : Type 0) : Type 1 where
  pub leaves : A → List Value → List Value
  pub few : (a : A) (vs : List Value) → length (leaves a vs) ≤ suc (length vs)
  pub spare : ℕ
  pub In : ℕ → A → Type 0

-- an expression pushes its value, a plain value is pushed, a command leaves nothing
abbrev pub a_value : Work Value
a_value = record { leaves = λ v vs. v ∷ vs; few = λ v vs. omega arith; spare = 1; In = λ n v. Inside n v }

abbrev pub a_plain : Work Plain
a_plain = record { leaves = λ p vs. plain p ∷ vs; few = λ p vs. omega arith; spare = 0; In = λ n p. Unit {0} }

abbrev pub a_command : Work (Unit {0})
a_command = record { leaves = λ u vs. vs; few = λ u vs. omega arith; spare = 0; In = λ n u. Unit {0} }

abbrev pub leaving : {A : Type 0} → Work A → A → Waiting → Waiting
leaving k a K = record { values = k.leaves a K.values; used = K.used; dump = K.dump }

module _ (S : Setup) where
  abbrev Told : {A : Type 0} → (A → World → ℕ → ℕ → Type 0) → State → ℕ → ℕ → Outcome A → Type 0
  Told D x b h (done a w c) = (s : ℕ) × D a w c s
  Told D x b h (ended e n w c) = (s : ℕ) × Reach S x s (halted e n w) × (s + 3 * c ≤ 3 * b)
  Told D x b h (cut w) = (s : ℕ) × (c : Config) × Reach S x s (running c) × (c.world ≡ w) × (b ≤ 2 * s + h)
  Told D x b h lost = ⊥

  pub record Post {A : Type 0} (D : A → World → ℕ → ℕ → Type 0) (x : State) (b h : ℕ) (o : Outcome A) : Type 0 where
    pub told : Told D x b h o

  pub is_done : {A : Type 0} {D : A → World → ℕ → ℕ → Type 0} {x : State} {b h : ℕ} {a : A} {w : World} {c : ℕ} (s : ℕ) → D a w c s → Post D x b h (done a w c)
  is_done s d = record { told = (s, d) }

  pub is_ended : {A : Type 0} {D : A → World → ℕ → ℕ → Type 0} {x : State} {b h : ℕ} {e : End} {n : ℕ} {w : World} {c : ℕ} (s : ℕ) →
      Reach S x s (halted e n w) → s + 3 * c ≤ 3 * b → Post D x b h (ended e n w c)
  is_ended s r l = record { told = (s, r, l) }

  pub is_cut : {A : Type 0} {D : A → World → ℕ → ℕ → Type 0} {x : Config} {b h : ℕ} → b ≤ h → Post D (running x) b h (cut x.world)
  is_cut {x = x} l = record { told = (0, x, stay S, refl, omega arith) }

  -- work with a continuation: s₀ steps have led from x₀ to x₁, where the work begins; what is done of it goes on
  pub and_then : {A B : Type 0} {D : A → World → ℕ → ℕ → Type 0} {D' : B → World → ℕ → ℕ → Type 0} {x₀ x₁ : State} {s₀ b₀ b₁ h₀ h₁ : ℕ} {o : Outcome A}
      (k : A → World → ℕ → Outcome B) → Reach S x₀ s₀ x₁ → s₀ + 3 * b₁ ≤ 3 * b₀ → b₀ + h₁ ≤ b₁ + 2 * s₀ + h₀ →
      Post D x₁ b₁ h₁ o →
      ((a : A) (w : World) (c s : ℕ) → D a w c s → Post D' x₀ b₀ h₀ (k a w c)) →
      Post D' x₀ b₀ h₀ (bind o k)
  and_then {o = done a w c} k r most least q f = f a w c q.told.0 q.told.1
  and_then {o = ended e n w c} k r most least q f =
      let t = q.told in let l = t.2 in is_ended _ (then S r t.1) (omega arith)
  and_then {s₀ = s₀} {o = cut w} k r most least q f =
      let t = q.told in let l = t.4 in record { told = (s₀ + t.0, t.1, then S r t.2, t.3, omega arith) }
  and_then {o = lost} k r most least q f = absurd q.told

  -- work in the last place: what is done of it is done of the whole
  pub lastly : {A : Type 0} {D D' : A → World → ℕ → ℕ → Type 0} {x₀ x₁ : State} {s₀ b₀ b₁ h₀ h₁ : ℕ} {o : Outcome A} →
      Reach S x₀ s₀ x₁ → s₀ + 3 * b₁ ≤ 3 * b₀ → b₀ + h₁ ≤ b₁ + 2 * s₀ + h₀ →
      Post D x₁ b₁ h₁ o →
      ((a : A) (w : World) (c s : ℕ) → D a w c s → (s' : ℕ) × D' a w c s') →
      Post D' x₀ b₀ h₀ o
  lastly {o = done a w c} r most least q f = record { told = f a w c q.told.0 q.told.1 }
  lastly {o = ended e n w c} r most least q f =
      let t = q.told in let l = t.2 in is_ended _ (then S r t.1) (omega arith)
  lastly {s₀ = s₀} {o = cut w} r most least q f =
      let t = q.told in let l = t.4 in record { told = (s₀ + t.0, t.1, then S r t.2, t.3, omega arith) }
  lastly {o = lost} r most least q f = absurd q.told

  -- the machine at position p, in a scene, with what waits
  abbrev pub at : Scene S.code → Waiting → ℕ → World → State
  at Γ K p w = running (config p K.values Γ.environment K.used K.dump w)

  -- work done from p to q: s steps, c of b visits left, and as many cells as before
  pub record Done {A : Type 0} (k : Work A) (Γ : Scene S.code) (K : Waiting) (p q : ℕ) (w₀ : World) (b : ℕ) (a : A) (w : World) (c s : ℕ) : Type 0 where
    pub reach : Reach S (at Γ K p w₀) s (at Γ (leaving k a K) q w)
    pub most : s + k.spare + 3 * c ≤ 3 * b
    pub least : b + 1 ≤ 2 * s + c
    pub same : length w.cells ≡ length w₀.cells
    pub inside : k.In (length w₀.cells) a

  -- a declaration of z nodes done from p to q: a new environment, cells perhaps, and what the tables hold then
  pub record Declared (Γ : Scene S.code) (K : Waiting) (p q : ℕ) (w₀ : World) (b r z : ℕ) (sc : List Entry) (bs : List Binding) (w : World) (c s : ℕ) : Type 0 where
    pub environment : List Bound
    pub used : ℕ
    pub r' : ℕ
    pub corresponds : Corresponds S.code sc bs environment
    pub reach : Reach S (at Γ K p w₀) s (running (config q K.values environment used K.dump w))
    pub most : s + 3 * c ≤ 3 * b
    pub least : b + 1 ≤ 2 * s + c
    pub kept : length w₀.cells ≤ length w.cells
    pub inside : AllInside (length w.cells) bs
    pub few_used : used ≤ r'
    pub few_cells : length w.cells ≤ r'
    pub higher : r ≤ r'
    pub enough : r' + bodies bs ≤ r + z + bodies Γ.bindings

  -- what a tree behind a declaration sees, what waits below it, and that it fits
  module _ {Γ : Scene S.code} {K : Waiting} {p q : ℕ} {w₀ : World} {b r z : ℕ} {sc : List Entry} {bs : List Binding} {w : World} {c s : ℕ} where
    abbrev pub scene_after : Declared Γ K p q w₀ b r z sc bs w c s → Scene S.code
    scene_after d = record { scope = sc; bindings = bs; environment = d.environment; corresponds = d.corresponds }

    abbrev pub waiting_after : Declared Γ K p q w₀ b r z sc bs w c s → Waiting
    waiting_after d = record { values = K.values; used = d.used; dump = K.dump }

    pub fits_after : (d : Declared Γ K p q w₀ b r z sc bs w c s) (z₁ z₂ : ℕ) → Fits S.room Γ.bindings K w₀ r z₂ → z + z₁ ≤ z₂ →
        Fits S.room bs (waiting_after d) w d.r' z₁
    fits_after d z₁ z₂ f h = record { inside = d.inside; values = omega arith; used = d.few_used; dump = omega arith; cells = d.few_cells; enough = omega arith }

  abbrev pub Does : {A : Type 0} → Work A → Scene S.code → Waiting → ℕ → ℕ → World → ℕ → ℕ → Outcome A → Type 0
  Does k Γ K p q w b z o = Post (Done k Γ K p q w b) (at Γ K p w) b (z + bodies Γ.bindings) o

  abbrev pub Declares : Scene S.code → Waiting → ℕ → ℕ → World → ℕ → ℕ → ℕ → List Entry → Outcome (List Binding) → Type 0
  Declares Γ K p q w b r z sc o = Post (Declared Γ K p q w b r z sc) (at Γ K p w) b (z + bodies Γ.bindings) o

  -- the statement of the induction, at depth g, for a sort of trees and what their work leaves
  abbrev pub Sim : {T A : Type 0} → Sort T → Work A → (T → List Binding → World → ℕ → Outcome A) → ℕ → Type 0
  Sim {T} σ k eval g = (t : T) (Γ : Scene S.code) (K : Waiting) (p : ℕ) (w : World) (b r : ℕ) →
      Placed σ S.code t Γ.scope p → Fits S.room Γ.bindings K w r (σ.size t) → b ≤ g →
      Does k Γ K p (σ.behind t p) w b (σ.size t) (eval t Γ.bindings w b)

  abbrev pub SimE : ℕ → Type 0
  SimE g = Sim expressions a_value (eval_e S.rules g) g

  abbrev pub SimPlain : ℕ → Type 0
  SimPlain g = Sim plains a_plain (λ t bs w b. plainly (eval_e S.rules g t bs w b)) g

  abbrev pub SimC : ℕ → Type 0
  SimC g = Sim commands a_command (eval_c S.rules g) g

  abbrev pub SimD : ℕ → Type 0
  SimD g = (t : Declaration) (Γ : Scene S.code) (K : Waiting) (p : ℕ) (w : World) (b r : ℕ) →
      Placed declarations S.code t Γ.scope p → Fits S.room Γ.bindings K w r (size_d t) → b ≤ g →
      Declares Γ K p (behind_d t p) w b r (size_d t) (scope_after t Γ.scope) (eval_d S.rules g t Γ.bindings w b)
