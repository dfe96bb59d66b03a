-- The walk over the names of a tree finds no fault exactly when every name is visible and of the role that is wanted.
use Rattle.std.proofs.Common.{◌≡◌, ℕ, true, List, Some, None, Ok, Option, refl, ap, ◌∙◌, arith}
use Rattle.vocabulary.specs.declared.refusal.Cause.TheVariants.{NameRole}
use Rattle.vocabulary.specs.Refusals.{unless}
use Rattle.language.specs.declared.name.Entry.{Entry}
use Rattle.language.specs.declared.name.Place.{Place}
use Rattle.language.specs.declared.name.Role.{Role}
use Rattle.language.specs.declared.name.Role.TheVariants.{Value, Procedure, Function}
use Rattle.language.specs.Scope.{place_of, place, scope_after, scope_inside}
use Rattle.language.specs.Names.{Names, NamedE, NamedC, NamedD, same_role, naming, names_e, names_c, names_d}
use Rattle.language.specs.Tree.{Expression, Command, Declaration}
use Rattle.language.specs.Tree.Expression.{number, truth, read, name, operation, function_call, choice}
use Rattle.language.specs.Tree.Command.{assign, output, when, while, block, sequence, procedure_call}
use Rattle.language.specs.Tree.Declaration.{constant, variable, procedure, function, pair}
use Rattle.language.proofs.Verdicts.{both_accept, accept_both, unless_accepts}

same_role_lem : (r s : Role) → same_role r s ≡ true → s ≡ r
same_role_lem Value Value e = refl
same_role_lem Value Procedure e = let z : ◌≡◌ {A = ℕ} 0 1 = cc in absurd (omega arith)
same_role_lem Value Function e = let z : ◌≡◌ {A = ℕ} 0 1 = cc in absurd (omega arith)
same_role_lem Procedure Value e = let z : ◌≡◌ {A = ℕ} 0 1 = cc in absurd (omega arith)
same_role_lem Procedure Procedure e = refl
same_role_lem Procedure Function e = let z : ◌≡◌ {A = ℕ} 0 1 = cc in absurd (omega arith)
same_role_lem Function Value e = let z : ◌≡◌ {A = ℕ} 0 1 = cc in absurd (omega arith)
same_role_lem Function Procedure e = let z : ◌≡◌ {A = ℕ} 0 1 = cc in absurd (omega arith)
same_role_lem Function Function e = refl

role_same : (r : Role) → same_role r r ≡ true
role_same Value = refl
role_same Procedure = refl
role_same Function = refl

-- one name
pub name-accepted : (nd : ℕ) (r : Role) (sc : List Entry) (x : ℕ) → naming nd r (place_of sc x) ≡ Ok tt → Names sc x r
name-accepted nd r sc x e = go (place_of sc x) refl e
  where
    go : (o : Option Place) → place_of sc x ≡ o → naming nd r o ≡ Ok tt → Names sc x r
    go None h f = let z : ◌≡◌ {A = ℕ} 0 1 = cc f in absurd (omega arith)
    go (Some p) h f =
        let s : p.role ≡ r = same_role_lem r p.role (unless_accepts (same_role r p.role) NameRole nd f) in
        (p.newer, h ∙ ap (λ q. Some (place p.newer q)) s)

pub name_accepts : (nd : ℕ) (r : Role) (sc : List Entry) (x : ℕ) → Names sc x r → naming nd r (place_of sc x) ≡ Ok tt
name_accepts nd r sc x n = ap (naming nd r) n.1 ∙ ap (λ b. unless b NameRole nd) (role_same r)

-- the walk accepts: every name is in order
pub named_e : (t : Expression) (sc : List Entry) → names_e t sc ≡ Ok tt → NamedE t sc
unfolding names_e
named_e (number nd z) sc e = tt
named_e (truth nd t) sc e = tt
named_e (read nd) sc e = tt
named_e (name nd x) sc e = name-accepted nd Value sc x e
named_e (operation nd o a b) sc e = let q = both_accept _ _ e in (named_e a sc q.0, named_e b sc q.1)
named_e (function_call nd f a) sc e = let q = both_accept _ _ e in (name-accepted nd Function sc f q.0, named_e a sc q.1)
named_e (choice nd a b c) sc e =
    let q = both_accept _ _ e in let r = both_accept _ _ q.1 in (named_e a sc q.0, named_e b sc r.0, named_e c sc r.1)

mutual
  unfolding names_c names_d

  pub named_c : (t : Command) (sc : List Entry) → names_c t sc ≡ Ok tt → NamedC t sc
  named_c (assign nd a b) sc e = let q = both_accept _ _ e in (named_e a sc q.0, named_e b sc q.1)
  named_c (output nd a) sc e = named_e a sc e
  named_c (when nd a b c) sc e =
      let q = both_accept _ _ e in let r = both_accept _ _ q.1 in (named_e a sc q.0, named_c b sc r.0, named_c c sc r.1)
  named_c (while nd a b) sc e = let q = both_accept _ _ e in (named_e a sc q.0, named_c b sc q.1)
  named_c (block nd a b) sc e = let q = both_accept _ _ e in (named_d a sc q.0, named_c b (scope_after a sc) q.1)
  named_c (sequence nd a b) sc e = let q = both_accept _ _ e in (named_c a sc q.0, named_c b sc q.1)
  named_c (procedure_call nd f a) sc e = let q = both_accept _ _ e in (name-accepted nd Procedure sc f q.0, named_e a sc q.1)

  pub named_d : (t : Declaration) (sc : List Entry) → names_d t sc ≡ Ok tt → NamedD t sc
  named_d (constant nd x a) sc e = named_e a sc e
  named_d (variable nd x a) sc e = named_e a sc e
  named_d (procedure nd x a y) sc e = named_c a (scope_inside y sc) e
  named_d (function nd x a y) sc e = named_e a (scope_inside y sc) e
  named_d (pair nd a b) sc e = let q = both_accept _ _ e in (named_d a sc q.0, named_d b (scope_after a sc) q.1)

-- every name is in order: the walk accepts
pub accepted_e : (t : Expression) (sc : List Entry) → NamedE t sc → names_e t sc ≡ Ok tt
unfolding names_e
accepted_e (number nd z) sc n = refl
accepted_e (truth nd t) sc n = refl
accepted_e (read nd) sc n = refl
accepted_e (name nd x) sc n = name_accepts nd Value sc x n
accepted_e (operation nd o a b) sc n = accept_both (accepted_e a sc n.0) (accepted_e b sc n.1)
accepted_e (function_call nd f a) sc n = accept_both (name_accepts nd Function sc f n.0) (accepted_e a sc n.1)
accepted_e (choice nd a b c) sc n = accept_both (accepted_e a sc n.0) (accept_both (accepted_e b sc n.1) (accepted_e c sc n.2))

mutual
  unfolding names_c names_d

  pub accepted_c : (t : Command) (sc : List Entry) → NamedC t sc → names_c t sc ≡ Ok tt
  accepted_c (assign nd a b) sc n = accept_both (accepted_e a sc n.0) (accepted_e b sc n.1)
  accepted_c (output nd a) sc n = accepted_e a sc n
  accepted_c (when nd a b c) sc n = accept_both (accepted_e a sc n.0) (accept_both (accepted_c b sc n.1) (accepted_c c sc n.2))
  accepted_c (while nd a b) sc n = accept_both (accepted_e a sc n.0) (accepted_c b sc n.1)
  accepted_c (block nd a b) sc n = accept_both (accepted_d a sc n.0) (accepted_c b (scope_after a sc) n.1)
  accepted_c (sequence nd a b) sc n = accept_both (accepted_c a sc n.0) (accepted_c b sc n.1)
  accepted_c (procedure_call nd f a) sc n = accept_both (name_accepts nd Procedure sc f n.0) (accepted_e a sc n.1)

  pub accepted_d : (t : Declaration) (sc : List Entry) → NamedD t sc → names_d t sc ≡ Ok tt
  accepted_d (constant nd x a) sc n = accepted_e a sc n
  accepted_d (variable nd x a) sc n = accepted_e a sc n
  accepted_d (procedure nd x a y) sc n = accepted_c a (scope_inside y sc) n
  accepted_d (function nd x a y) sc n = accepted_e a (scope_inside y sc) n
  accepted_d (pair nd a b) sc n = accept_both (accepted_d a sc n.0) (accepted_d b (scope_after a sc) n.1)
