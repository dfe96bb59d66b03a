-- Visits granted beyond what is used are left over, and the depth does not matter while the visits run out first.
--
-- A piece of work is a function from the visits granted to its outcome. `Metered B m m'`, for the same piece of work at a depth B
-- and at a larger depth:
--   neither leaves more visits than it is granted;
--   with b ≤ B visits m comes to the same as m' with b + j visits, but that j more are left; where m is cut, m' leaves fewer than j.
-- Every construct of the evaluator keeps this, so that the proof has the evaluator's shape, a line for each form.
use Rattle.std.proofs.Common.{◌≡◌, ℕ, zero, suc, ◌+◌, ◌<◌, ◌≤◌, Bool, true, false, List, [], ◌∷◌, Some, None, Ok, Err, Option, sym, refl, ap, subst, suc-add, zero-add, arith}
use Rattle.vocabulary.specs.declared.end.End.{End}
use Rattle.vocabulary.specs.declared.item.Item.{Item}
use Rattle.vocabulary.specs.declared.item.Item.TheVariants.{Reading, Fault}
use Rattle.vocabulary.specs.declared.value.Plain.{Plain}
use Rattle.vocabulary.specs.declared.value.Plain.TheVariants.{Number, Truth}
use Rattle.vocabulary.specs.declared.value.Value.{Value}
use Rattle.vocabulary.specs.declared.value.Value.TheVariants.{Plain as plain, Location}
use Rattle.vocabulary.specs.Numbers.{Answer}
use Rattle.vocabulary.specs.Tables.{found}
use Rattle.vocabulary.specs.World.{World, Rules}
use Rattle.language.specs.Tree.{Expression, Command}
use Rattle.language.specs.Outcomes.{Binding, Outcome, Found, bind, deref, or_lost, plainly, taken, answered, valued, tested, located, putting, as_function, as_procedure}
use Rattle.language.specs.Outcomes.Denoted.{value, procedure_body, function_body}
use Rattle.language.specs.Outcomes.Found.{named, unnamed}
use Rattle.language.specs.Outcomes.Outcome.{done, ended, cut, lost}

-- a statement about the visits left
abbrev pub Left : {A : Type 0} → (ℕ → Type 0) → Outcome A → Type 0
Left P (done a w c) = P c
Left P (ended e n w c) = P c
Left P (cut w) = Unit {0}
Left P lost = Unit {0}

-- the same outcome but for j visits more that are left
abbrev pub Longer : {A : Type 0} → ℕ → Outcome A → Outcome A → Type 0
Longer j (done a w c) o = o ≡ done a w (c + j)
Longer j (ended e n w c) o = o ≡ ended e n w (c + j)
Longer j (cut w) o = Left (λ c. c < j) o
Longer j lost o = o ≡ lost

pub record Metered {A : Type 0} (B : ℕ) (m m' : ℕ → Outcome A) : Type 0 where
  pub low : (b : ℕ) → Left (λ c. c ≤ b) (m b)
  pub low' : (b : ℕ) → Left (λ c. c ≤ b) (m' b)
  pub longer : (b j : ℕ) → b ≤ B → Longer j (m b) (m' (b + j))

left_weaken : {A : Type 0} (P Q : ℕ → Type 0) (o : Outcome A) → ((c : ℕ) → P c → Q c) → Left P o → Left Q o
left_weaken P Q (done a w c) f s = f c s
left_weaken P Q (ended e n w c) f s = f c s
left_weaken P Q (cut w) f s = tt
left_weaken P Q lost f s = tt

left_bind : {A B : Type 0} (P : ℕ → Type 0) (o : Outcome A) (k : A → World → ℕ → Outcome B) → Left P o →
    ((a : A) (w : World) (c : ℕ) → P c → Left P (k a w c)) → Left P (bind o k)
left_bind P (done a w c) k s f = f a w c s
left_bind P (ended e n w c) k s f = s
left_bind P (cut w) k s f = tt
left_bind P lost k s f = tt

module _ {A : Type 0} {B : ℕ} where
  pub returns : {a : A} {w : World} → Metered B (λ b. done a w b) (λ b. done a w b)
  returns = record { low = λ b. omega arith; low' = λ b. omega arith; longer = λ b j h. refl }

  pub stops : {e : End} {n : ℕ} {w : World} → Metered {A = A} B (λ b. ended e n w b) (λ b. ended e n w b)
  stops = record { low = λ b. omega arith; low' = λ b. omega arith; longer = λ b j h. refl }

  pub nothing : Metered {A = A} B (λ b. lost) (λ b. lost)
  nothing = record { low = λ b. tt; low' = λ b. tt; longer = λ b j h. refl }

pub binds : {A C : Type 0} {B : ℕ} {m m' : ℕ → Outcome A} {k k' : A → World → ℕ → Outcome C} → Metered B m m' → ((a : A) (w : World) → Metered B (k a w) (k' a w)) →
    Metered B (λ b. bind (m b) (k)) (λ b. bind (m' b) (k'))
binds {B = B} {m} {m'} {k} {k'} p q = record {
  low = λ b. left_bind (λ c. c ≤ b) (m b) k (p.low b) (λ a w c h. left_weaken (λ d. d ≤ c) (λ d. d ≤ b) (k a w c) (λ d l. omega arith) ((q a w).low c));
  low' = λ b. left_bind (λ c. c ≤ b) (m' b) k' (p.low' b) (λ a w c h. left_weaken (λ d. d ≤ c) (λ d. d ≤ b) (k' a w c) (λ d l. omega arith) ((q a w).low' c));
  longer = λ b j h. go b j h (m b) (m' (b + j)) (p.low b) (p.longer b j h);
}
  where
    go : (b j : ℕ) → b ≤ B → (o o' : Outcome _) → Left (λ c. c ≤ b) o → Longer j o o' → Longer j (bind o k) (bind o' k')
    go b j h (done a w c) o' l x = subst (λ z. Longer j (k a w c) (bind z k')) (sym x) ((q a w).longer c j (omega arith))
    go b j h (ended e n w c) o' l x = ap (λ z. bind z k') x
    go b j h (cut w) o' l x =
        left_bind (λ c. c < j) o' k' x (λ a v c y. left_weaken (λ d. d ≤ c) (λ d. d < j) (k' a v c) (λ d z. omega arith) ((q a v).low' c))
    go b j h lost o' l x = ap (λ z. bind z k') x

-- the single acts: each returns, stops or is lost
module _ {B : ℕ} where
  or_lost_lem : {A : Type 0} (o : Option A) (w : World) → Metered B (λ b. or_lost o w b) (λ b. or_lost o w b)
  or_lost_lem None w = nothing
  or_lost_lem (Some a) w = returns

  derefs : (v : Value) (w : World) → Metered B (λ b. deref v w b) (λ b. deref v w b)
  derefs (plain p) w = returns
  derefs (Location l) w = or_lost_lem (found w.cells l) w

  pub plainlies : {m m' : ℕ → Outcome Value} → Metered B m m' → Metered B (λ b. plainly (m b)) (λ b. plainly (m' b))
  plainlies p = binds p derefs

  pub takes : (nd : ℕ) (f : List Item) (w : World) → Metered B (λ b. taken nd f w b) (λ b. taken nd f w b)
  takes nd [] w = stops
  takes nd (Reading z ∷ f) w = returns
  takes nd (Fault j ∷ f) w = stops

  pub answers : (nd : ℕ) (α : Answer) (w : World) → Metered B (λ b. answered nd α w b) (λ b. answered nd α w b)
  answers nd (Ok p) w = returns
  answers nd (Err e) w = stops

  pub values : (f : Found) (w : World) → Metered B (λ b. valued f w b) (λ b. valued f w b)
  values unnamed w = nothing
  values (named (value v) bs) w = returns
  values (named (procedure_body y t) bs) w = nothing
  values (named (function_body y t) bs) w = nothing

  pub puts : (nd : ℕ) (R : Rules) (p : Plain) (w : World) (t : Bool) → Metered B (λ b. putting nd R p w b t) (λ b. putting nd R p w b t)
  puts nd R p w true = returns
  puts nd R p w false = stops

  -- what goes on with a test, a location or a routine
  pub tests : {A : Type 0} (nd : ℕ) (p : Plain) (w : World) {k k' : Bool → ℕ → Outcome A} → ((t : Bool) → Metered B (k t) (k' t)) →
      Metered B (λ b. tested nd p w b (λ t. k t b)) (λ b. tested nd p w b (λ t. k' t b))
  tests nd (Number z) w f = stops
  tests nd (Truth t) w f = f t

  pub locates : {A : Type 0} (nd : ℕ) (v : Value) (w : World) {k k' : ℕ → ℕ → Outcome A} → ((l : ℕ) → Metered B (k l) (k' l)) →
      Metered B (λ b. located nd v w b (λ l. k l b)) (λ b. located nd v w b (λ l. k' l b))
  locates nd (plain p) w f = stops
  locates nd (Location l) w f = f l

  pub functions : (f : Found) {k k' : ℕ → Expression → List Binding → ℕ → Outcome Value} → ((y : ℕ) (t : Expression) (bs : List Binding) → Metered B (k y t bs) (k' y t bs)) →
      Metered B (λ b. as_function f (λ y t bs. k y t bs b)) (λ b. as_function f (λ y t bs. k' y t bs b))
  functions unnamed f = nothing
  functions (named (value v) bs) f = nothing
  functions (named (procedure_body y t) bs) f = nothing
  functions (named (function_body y t) bs) f = f y t bs

  pub procedures : (f : Found) {k k' : ℕ → Command → List Binding → ℕ → Outcome (Unit {0})} → ((y : ℕ) (t : Command) (bs : List Binding) → Metered B (k y t bs) (k' y t bs)) →
      Metered B (λ b. as_procedure f (λ y t bs. k y t bs b)) (λ b. as_procedure f (λ y t bs. k' y t bs b))
  procedures unnamed f = nothing
  procedures (named (value v) bs) f = nothing
  procedures (named (procedure_body y t) bs) f = f y t bs
  procedures (named (function_body y t) bs) f = nothing

-- a node that begins: it is cut where no visit is left, and else uses one
visits : {A : Type 0} {B : ℕ} {n n' : ℕ → Outcome A} {w : World} → n 0 ≡ cut w → n' 0 ≡ cut w →
    Metered B (λ b. n (suc b)) (λ b. n' (suc b)) → Metered (suc B) n n'
visits {A} {B} {n} {n'} {w} e e' p = record { low = below n e p.low; low' = below n' e' p.low'; longer = longer }
  where
    below : (m : ℕ → Outcome A) → m 0 ≡ cut w → ((b : ℕ) → Left (λ c. c ≤ b) (m (suc b))) → (b : ℕ) → Left (λ c. c ≤ b) (m b)
    below m f l zero = subst (Left (λ c. c ≤ 0)) (sym f) tt
    below m f l (suc b) = left_weaken (λ c. c ≤ b) (λ c. c ≤ suc b) (m (suc b)) (λ c h. omega arith) (l b)

    fewer : (j : ℕ) → Left (λ c. c < j) (n' j)
    fewer zero = subst (Left (λ c. c < 0)) (sym e') tt
    fewer (suc j) = left_weaken (λ c. c ≤ j) (λ c. c < suc j) (n' (suc j)) (λ c h. omega arith) (p.low' j)

    longer : (b j : ℕ) → b ≤ suc B → Longer j (n b) (n' (b + j))
    longer zero j h = subst (λ i. Longer j (n 0) (n' i)) (sym (zero-add j)) (subst (λ o. Longer j o (n' j)) (sym e) (fewer j))
    longer (suc b) j h = subst (λ i. Longer j (n (suc b)) (n' i)) (sym (suc-add b j)) (p.longer b j (omega arith))

-- an evaluator of any sort of tree at depths g and h; and what it does once a node has begun
abbrev pub Meters : {T A : Type 0} → (ℕ → T → List Binding → World → ℕ → Outcome A) → ℕ → ℕ → Type 0
Meters {T} eval g h = (t : T) (bs : List Binding) (w : World) → Metered g (eval g t bs w) (eval h t bs w)

abbrev pub Begins : {T A : Type 0} → (ℕ → T → List Binding → World → ℕ → Outcome A) → Type 0
Begins {T} eval = (g h : ℕ) → g ≤ h → Meters eval g h →
    (t : T) (bs : List Binding) (w : World) → Metered g (λ b. eval (suc g) t bs w (suc b)) (λ b. eval (suc h) t bs w (suc b))

pub metering : {T A : Type 0} (eval : ℕ → T → List Binding → World → ℕ → Outcome A) →
    ((t : T) (bs : List Binding) (w : World) (b : ℕ) → eval 0 t bs w b ≡ cut w) →
    ((g : ℕ) (t : T) (bs : List Binding) (w : World) → eval (suc g) t bs w 0 ≡ cut w) →
    Begins eval → (g h : ℕ) → g ≤ h → Meters eval g h
metering eval at_zero no-visit begun zero zero l t bs w =
    record {
      low = λ b. subst (Left (λ c. c ≤ b)) (sym (at_zero t bs w b)) tt;
      low' = λ b. subst (Left (λ c. c ≤ b)) (sym (at_zero t bs w b)) tt;
      longer = λ b j h. subst (λ o. Longer j o (eval 0 t bs w (b + j))) (sym (at_zero t bs w b)) (subst (Left (λ c. c < j)) (sym (at_zero t bs w (b + j))) tt);
    }
metering eval at_zero no-visit begun zero (suc h) l t bs w =
    let p : Metered 1 (eval 1 t bs w) (eval (suc h) t bs w) = visits (no-visit 0 t bs w) (no-visit h t bs w) (begun 0 h (omega arith) (metering eval at_zero no-visit begun 0 h (omega arith)) t bs w) in
    record {
      low = λ b. subst (Left (λ c. c ≤ b)) (sym (at_zero t bs w b)) tt;
      low' = p.low';
      longer = λ b j k. subst (λ o. Longer j o (eval (suc h) t bs w (b + j))) (sym (at_zero t bs w b))
          (subst (λ i. Left (λ c. c < j) (eval (suc h) t bs w (i + j))) (omega arith) (subst (λ o. Longer j o (eval (suc h) t bs w (0 + j))) (no-visit 0 t bs w) (p.longer 0 j (omega arith))));
    }
metering eval at_zero no-visit begun (suc g) zero l t bs w = absurd (omega arith)
metering eval at_zero no-visit begun (suc g) (suc h) l t bs w =
    visits (no-visit g t bs w) (no-visit h t bs w) (begun g h (omega arith) (metering eval at_zero no-visit begun g h (omega arith)) t bs w)
