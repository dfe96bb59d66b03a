-- A name that is visible in the scope: what the source finds for it and what stands at its place in the machine's environment match,
-- by induction on the three lists that go in step. A name in the role of a value has a value, in that of a routine a body of its sort.
use Rattle.std.proofs.Common.{◌≡◌, ℕ, suc, ◌+◌, ◌≤◌, Bool, true, false, eqb, List, ◌∷◌, drop, Some, None, Option, refl, ap, ◌∙◌, subst, arith}
use Rattle.vocabulary.specs.declared.code.Word.{Word}
use Rattle.vocabulary.specs.declared.value.Value.{Value}
use Rattle.vocabulary.specs.Tables.{found}
use Rattle.language.specs.declared.name.Entry.{Entry}
use Rattle.language.specs.declared.name.Place.{Place}
use Rattle.language.specs.declared.name.Role.{Role}
use Rattle.language.specs.declared.name.Role.TheVariants.{Value as a_value, Procedure, Function}
use Rattle.language.specs.Scope.{place, later, place_of, scope_inside}
use Rattle.language.specs.Outcomes.{Denoted, Binding, Found, find}
use Rattle.language.specs.Outcomes.Binding.{binding}
use Rattle.language.specs.Outcomes.Denoted.{value as denotes, procedure_body, function_body}
use Rattle.language.specs.Outcomes.Found.{named}
use Rattle.machine.specs.declared.tables.Bound.{Bound}
use Rattle.machine.specs.declared.tables.Bound.TheVariants.{Holds}
use Rattle.agreement.proofs.Placed.{Sort, expressions, commands}
use Rattle.agreement.proofs.Scene.{Corresponds, Match, BodyAt, role_of, weight, bodies, Inside, DenotesInside, AllInside}
use Rattle.agreement.proofs.Scene.Corresponds.{nil, more}

none_is_no_place : {A : Type 0} {a : A} → None ≡ Some a → ⊥
none_is_no_place e = let z : ◌≡◌ {A = ℕ} 0 1 = cc in omega arith

later-place : (o : Option Place) (d : ℕ) (r : Role) → later o ≡ Some (place d r) → (c : ℕ) × (o ≡ Some (place c r)) × (suc c ≡ d)
later-place None d r e = absurd (none_is_no_place e)
later-place (Some p) d r e =
    let q : place (suc p.newer) p.role ≡ place d r = cc in
    (p.newer, ap (λ u. Some (place p.newer u.role)) q, ap (λ u. u.newer) q)

-- what the source finds, and what the machine has at place d
pub record Resolved (prog : List Word) (bs : List Binding) (m : List Bound) (d : ℕ) (r : Role) (f : Found) : Type 0 where
  pub denoted : Denoted
  pub rest : List Binding
  pub scope : List Entry
  pub bound : Bound
  pub is : f ≡ named denoted rest
  pub role : role_of denoted ≡ r
  pub slot : found m d ≡ Some bound
  pub match : Match prog scope denoted bound
  pub behind : Corresponds prog scope rest (drop (suc d) m)
  pub fewer : weight denoted + bodies rest ≤ bodies bs
  pub inside : (n : ℕ) → AllInside n bs → DenotesInside n denoted × AllInside n rest

pub resolve : (prog : List Word) {sc : List Entry} {bs : List Binding} {m : List Bound} (x d : ℕ) (r : Role) →
    Corresponds prog sc bs m → place_of sc x ≡ Some (place d r) → Resolved prog bs m d r (find bs x)
resolve prog x d r nil e = absurd (none_is_no_place e)
resolve prog x d r (more {sc = sc} {bs = bs} {m = m} y th b h o) e =
    go (eqb y x) e (λ c f. resolve prog x c r o f)
  where
    go : (t : Bool) → (elim t [ true ↦ Some (place 0 (role_of th)) | false ↦ later (place_of sc x) ]) ≡ Some (place d r) →
        ((c : ℕ) → place_of sc x ≡ Some (place c r) → Resolved prog bs m c r (find bs x)) →
        Resolved prog (binding y th ∷ bs) (b ∷ m) d r (elim t [ true ↦ named th bs | false ↦ find bs x ])
    go true f rec =
        let q : place 0 (role_of th) ≡ place d r = cc in
        subst (λ k. Resolved prog (binding y th ∷ bs) (b ∷ m) k r (named th bs)) (ap (λ u. u.newer) q)
        (record { denoted = th; rest = bs; scope = sc; bound = b; is = refl; role = ap (λ u. u.role) q; slot = refl; match = h; behind = o; fewer = omega arith; inside = λ n q. q })
    go false f rec =
        let l = later-place (place_of sc x) d r f in
        let q = rec l.0 l.1 in
        subst (λ k. Resolved prog (binding y th ∷ bs) (b ∷ m) k r (find bs x)) l.2
        (record {
          denoted = q.denoted;
          rest = q.rest;
          scope = q.scope;
          bound = q.bound;
          is = q.is;
          role = q.role;
          slot = q.slot;
          match = q.match;
          behind = q.behind;
          fewer = omega arith;
          inside = λ n g. q.inside n g.1;
        })

module _ (prog : List Word) (bs : List Binding) (m : List Bound) (d : ℕ) (f : Found) where
  -- a name that has to denote a value, and does
  pub record ValueAt : Type 0 where
    pub value : Value
    pub rest : List Binding
    pub is : f ≡ named (denotes value) rest
    pub slot : found m d ≡ Some (Holds value)
    pub inside : (n : ℕ) → AllInside n bs → Inside n value

  -- a name that has to denote a routine of a sort, and does
  pub record RoutineAt {T : Type 0} (σ : Sort T) (routine : ℕ → T → Denoted) : Type 0 where
    pub parameter : ℕ
    pub tree : T
    pub rest : List Binding
    pub scope : List Entry
    pub bound : Bound
    pub is : f ≡ named (routine parameter tree) rest
    pub slot : found m d ≡ Some bound
    pub body : BodyAt σ prog tree (scope_inside parameter scope) bound
    pub behind : Corresponds prog scope rest (drop (suc d) m)
    pub fewer : σ.size tree + bodies rest ≤ bodies bs
    pub inside : (n : ℕ) → AllInside n bs → AllInside n rest

  pub value_at : Resolved prog bs m d a_value f → ValueAt
  value_at q = go q.denoted q.is q.role q.match (λ n g. (q.inside n g).0)
    where
      go : (th : Denoted) → f ≡ named th q.rest → role_of th ≡ a_value → Match prog q.scope th q.bound → ((n : ℕ) → AllInside n bs → DenotesInside n th) → ValueAt
      go (denotes v) is role match inside = record { value = v; rest = q.rest; is = is; slot = q.slot ∙ ap Some match; inside = inside }
      go (procedure_body y t) is role match inside = let z : ◌≡◌ {A = ℕ} 0 1 = cc in absurd (omega arith)
      go (function_body y t) is role match inside = let z : ◌≡◌ {A = ℕ} 0 1 = cc in absurd (omega arith)

  -- what is denoted in the role of a routine is a body of its sort
  abbrev BodyOf : {T : Type 0} → Sort T → (ℕ → T → Denoted) → Role → Type 0
  BodyOf {T} σ routine role = (sc : List Entry) (bound : Bound) (th : Denoted) → role_of th ≡ role → Match prog sc th bound →
      (y : ℕ) × (t : T) × (th ≡ routine y t) × (weight th ≡ σ.size t) × BodyAt σ prog t (scope_inside y sc) bound

  routine_at : {T : Type 0} (σ : Sort T) (routine : ℕ → T → Denoted) (role : Role) → BodyOf σ routine role → Resolved prog bs m d role f → RoutineAt σ routine
  routine_at σ routine role body_of q =
      let x = body_of q.scope q.bound q.denoted q.role q.match in let e = x.3 in let fewer = q.fewer in record {
        parameter = x.0;
        tree = x.1;
        rest = q.rest;
        scope = q.scope;
        bound = q.bound;
        is = q.is ∙ ap (λ th. named th q.rest) x.2;
        slot = q.slot;
        body = x.4;
        behind = q.behind;
        fewer = omega arith;
        inside = λ n g. (q.inside n g).1;
      }

  pub procedure_at : Resolved prog bs m d Procedure f → RoutineAt commands procedure_body
  procedure_at q = routine_at commands procedure_body Procedure body_of q
    where
      body_of : BodyOf commands procedure_body Procedure
      body_of sc bound (denotes v) role match = let z : ◌≡◌ {A = ℕ} 0 1 = cc in absurd (omega arith)
      body_of sc bound (procedure_body y t) role match = (y, t, refl, refl, match)
      body_of sc bound (function_body y t) role match = let z : ◌≡◌ {A = ℕ} 0 1 = cc in absurd (omega arith)

  pub function_at : Resolved prog bs m d Function f → RoutineAt expressions function_body
  function_at q = routine_at expressions function_body Function body_of q
    where
      body_of : BodyOf expressions function_body Function
      body_of sc bound (denotes v) role match = let z : ◌≡◌ {A = ℕ} 0 1 = cc in absurd (omega arith)
      body_of sc bound (procedure_body y t) role match = let z : ◌≡◌ {A = ℕ} 0 1 = cc in absurd (omega arith)
      body_of sc bound (function_body y t) role match = (y, t, refl, refl, match)
