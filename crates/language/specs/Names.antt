-- Every name is visible and stands for what is wanted; and the first fault of a walk, node before children.
use Rattle.std.specs.Prelude.{◌≡◌, ℕ, Bool, true, false, List, Some, None, Ok, Err, Option}
use Rattle.std.specs.Result.{result_and}
use Rattle.vocabulary.specs.declared.refusal.Cause.TheVariants.{NameNotVisible, NameRole}
use Rattle.vocabulary.specs.Refusals.{Verdict, refusal, unless}
use Rattle.language.specs.declared.name.Entry.{Entry}
use Rattle.language.specs.declared.name.Place.{Place}
use Rattle.language.specs.declared.name.Role.{Role}
use Rattle.language.specs.declared.name.Role.TheVariants.{Value, Procedure, Function}
use Rattle.language.specs.Scope.{place_of, place, scope_after, scope_inside}
use Rattle.language.specs.Tree.{Expression, Command, Declaration}
use Rattle.language.specs.Tree.Expression.{number, truth, read, name, operation, function_call, choice}
use Rattle.language.specs.Tree.Command.{assign, output, when, while, block, sequence, procedure_call}
use Rattle.language.specs.Tree.Declaration.{constant, variable, procedure, function, pair}

-- the newest entry of x has this role
abbrev pub Names : List Entry → ℕ → Role → Type 0
Names sc x r = (d : ℕ) × (place_of sc x ≡ Some (place d r))

-- every name of the tree is visible, and of the role that is wanted
abbrev pub NamedE : Expression → List Entry → Type 0
NamedE (number nd z) sc = Unit {0}
NamedE (truth nd t) sc = Unit {0}
NamedE (read nd) sc = Unit {0}
NamedE (name nd x) sc = Names sc x Value
NamedE (operation nd o a b) sc = NamedE a sc × NamedE b sc
NamedE (function_call nd f a) sc = Names sc f Function × NamedE a sc
NamedE (choice nd a b c) sc = NamedE a sc × NamedE b sc × NamedE c sc

abbrev mutual
  pub NamedC : Command → List Entry → Type 0
  NamedC (assign nd a b) sc = NamedE a sc × NamedE b sc
  NamedC (output nd a) sc = NamedE a sc
  NamedC (when nd a b c) sc = NamedE a sc × NamedC b sc × NamedC c sc
  NamedC (while nd a b) sc = NamedE a sc × NamedC b sc
  NamedC (block nd a b) sc = NamedD a sc × NamedC b (scope_after a sc)
  NamedC (sequence nd a b) sc = NamedC a sc × NamedC b sc
  NamedC (procedure_call nd f a) sc = Names sc f Procedure × NamedE a sc

  pub NamedD : Declaration → List Entry → Type 0
  NamedD (constant nd x a) sc = NamedE a sc
  NamedD (variable nd x a) sc = NamedE a sc
  NamedD (procedure nd x a y) sc = NamedC a (scope_inside y sc)
  NamedD (function nd x a y) sc = NamedE a (scope_inside y sc)
  NamedD (pair nd a b) sc = NamedD a sc × NamedD b (scope_after a sc)

abbrev pub same_role : Role → Role → Bool
same_role Value Value = true
same_role Value Procedure = false
same_role Value Function = false
same_role Procedure Value = false
same_role Procedure Procedure = true
same_role Procedure Function = false
same_role Function Value = false
same_role Function Procedure = false
same_role Function Function = true

-- the verdict on a name at a node, given its newest entry
abbrev pub naming : ℕ → Role → Option Place → Verdict
naming nd r None = Err (refusal NameNotVisible nd)
naming nd r (Some p) = unless (same_role r p.role) NameRole nd

-- the first fault of the names of a tree: node before children, a before b before c
unfoldable pub names_e : Expression → List Entry → Verdict
names_e (number nd z) sc = Ok tt
names_e (truth nd t) sc = Ok tt
names_e (read nd) sc = Ok tt
names_e (name nd x) sc = naming nd Value (place_of sc x)
names_e (operation nd o a b) sc = result_and (names_e a sc) (names_e b sc)
names_e (function_call nd f a) sc = result_and (naming nd Function (place_of sc f)) (names_e a sc)
names_e (choice nd a b c) sc = result_and (names_e a sc) (result_and (names_e b sc) (names_e c sc))

unfoldable mutual
  pub names_c : Command → List Entry → Verdict
  names_c (assign nd a b) sc = result_and (names_e a sc) (names_e b sc)
  names_c (output nd a) sc = names_e a sc
  names_c (when nd a b c) sc = result_and (names_e a sc) (result_and (names_c b sc) (names_c c sc))
  names_c (while nd a b) sc = result_and (names_e a sc) (names_c b sc)
  names_c (block nd a b) sc = result_and (names_d a sc) (names_c b (scope_after a sc))
  names_c (sequence nd a b) sc = result_and (names_c a sc) (names_c b sc)
  names_c (procedure_call nd f a) sc = result_and (naming nd Procedure (place_of sc f)) (names_e a sc)

  pub names_d : Declaration → List Entry → Verdict
  names_d (constant nd x a) sc = names_e a sc
  names_d (variable nd x a) sc = names_e a sc
  names_d (procedure nd x a y) sc = names_c a (scope_inside y sc)
  names_d (function nd x a y) sc = names_e a (scope_inside y sc)
  names_d (pair nd a b) sc = result_and (names_d a sc) (names_d b (scope_after a sc))
