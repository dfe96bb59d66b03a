-- Visible names. A scope is the list of them, the newest first.
use Rattle.std.specs.Prelude.{ℕ, suc, true, false, List, [], ◌∷◌, Some, None, Option, ◌==◌}
use Rattle.language.specs.declared.name.Entry.{Entry}
use Rattle.language.specs.declared.name.Place.{Place}
use Rattle.language.specs.declared.name.Role.{Role}
use Rattle.language.specs.declared.name.Role.TheVariants.{Value, Procedure, Function}
use Rattle.language.specs.Tree.{Declaration}
use Rattle.language.specs.Tree.Declaration.{constant, variable, procedure, function, pair}

abbrev pub entry : ℕ → Role → Entry
entry x r = record { name = x; role = r }

abbrev pub place : ℕ → Role → Place
place d r = record { newer = d; role = r }

-- the same place, with one newer entry more
abbrev pub later : Option Place → Option Place
later None = None
later (Some p) = Some (place (suc p.newer) p.role)

-- the newest entry of a name
abbrev pub place_of : List Entry → ℕ → Option Place
place_of [] x = None
place_of (e ∷ sc) x = elim (e.name == x) [ true ↦ Some (place 0 e.role) | false ↦ later (place_of sc x) ]

-- the number of newer entries, which is the operand of LOOK and CALL
abbrev pub newer_of : Option Place → ℕ
newer_of None = 0
newer_of (Some p) = p.newer

-- what is visible after a declaration
abbrev pub scope_after : Declaration → List Entry → List Entry
scope_after (constant nd x a) sc = entry x Value ∷ sc
scope_after (variable nd x a) sc = entry x Value ∷ sc
scope_after (procedure nd x a y) sc = entry x Procedure ∷ sc
scope_after (function nd x a y) sc = entry x Function ∷ sc
scope_after (pair nd a b) sc = scope_after b (scope_after a sc)

-- what the body of a routine with parameter y sees: the parameter, and what was visible before the declaration
abbrev pub scope_inside : ℕ → List Entry → List Entry
scope_inside y sc = entry y Value ∷ sc
