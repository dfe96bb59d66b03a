-- The translation of a tree. Each instruction carries the number of its node; the DEREF of a plain value carries that of the
-- expression, the HALT that of the root.
use Rattle.std.specs.Prelude.{ℕ, suc, List, [], ◌∷◌, ◌++◌}
use Rattle.vocabulary.specs.declared.code.Instruction.{Instruction}
use Rattle.vocabulary.specs.declared.code.Instruction.TheVariants.{Num, Truth, Read, Look, Deref, Op, JumpFalse, Jump, Call, Ret, IsLoc, Store, Put, Enter, Leave, Bind, New, Clos, Halt}
use Rattle.vocabulary.specs.declared.code.Word.{Word}
use Rattle.language.specs.declared.name.Entry.{Entry}
use Rattle.language.specs.Scope.{place_of, newer_of, scope_after, scope_inside}
use Rattle.language.specs.Tree.{Expression, Command, Declaration, node_e, node_c}
use Rattle.language.specs.Tree.Expression.{number, truth, read, name, operation, function_call, choice}
use Rattle.language.specs.Tree.Command.{assign, output, when, while, block, sequence, procedure_call}
use Rattle.language.specs.Tree.Declaration.{constant, variable, procedure, function, pair}

abbrev pub word : Instruction → ℕ → Word
word i nd = record { instruction = i; node = nd }

abbrev pub one : Instruction → ℕ → List Word
one i nd = word i nd ∷ []

-- the code that leaves the plain value of an expression, from the expression's code, and the position behind it
abbrev pub plain_code : Expression → List Word → List Word
plain_code t ws = ws ++ one Deref (node_e t)

abbrev pub plain_end : Expression → ℕ → ℕ
plain_end t p = suc p

-- the position behind the code of a tree whose code begins at p
abbrev pub behind_e : Expression → ℕ → ℕ
behind_e (number nd z) p = suc p
behind_e (truth nd t) p = suc p
behind_e (read nd) p = suc p
behind_e (name nd x) p = suc p
behind_e (operation nd o a b) p = suc (plain_end b (behind_e b (plain_end a (behind_e a p))))
behind_e (function_call nd f a) p = suc (behind_e a p)
behind_e (choice nd a b c) p = behind_e c (suc (behind_e b (suc (plain_end a (behind_e a p)))))

abbrev mutual
  pub behind_c : Command → ℕ → ℕ
  behind_c (assign nd a b) p = suc (plain_end b (behind_e b (suc (behind_e a p))))
  behind_c (output nd a) p = suc (plain_end a (behind_e a p))
  behind_c (when nd a b c) p = behind_c c (suc (behind_c b (suc (plain_end a (behind_e a p)))))
  behind_c (while nd a b) p = suc (behind_c b (suc (plain_end a (behind_e a p))))
  behind_c (block nd a b) p = suc (behind_c b (behind_d a (suc p)))
  behind_c (sequence nd a b) p = behind_c b (behind_c a p)
  behind_c (procedure_call nd f a) p = suc (behind_e a p)

  pub behind_d : Declaration → ℕ → ℕ
  behind_d (constant nd x a) p = suc (plain_end a (behind_e a p))
  behind_d (variable nd x a) p = suc (plain_end a (behind_e a p))
  behind_d (procedure nd x a y) p = suc (behind_c a (suc (suc p)))
  behind_d (function nd x a y) p = suc (behind_e a (suc (suc p)))
  behind_d (pair nd a b) p = behind_d b (behind_d a p)

-- the code of a tree at position p, where the names of the scope are visible
abbrev pub code_e : Expression → List Entry → ℕ → List Word
code_e (number nd z) sc p = one (Num z) nd
code_e (truth nd t) sc p = one (Truth t) nd
code_e (read nd) sc p = one Read nd
code_e (name nd x) sc p = one (Look (newer_of (place_of sc x))) nd
code_e (operation nd o a b) sc p =
    let q = plain_end a (behind_e a p) in
    plain_code a (code_e a sc p) ++ (plain_code b (code_e b sc q) ++ one (Op o) nd)
code_e (function_call nd f a) sc p =
    code_e a sc p ++ one (Call (newer_of (place_of sc f))) nd
code_e (choice nd a b c) sc p =
    let q = suc (plain_end a (behind_e a p)) in
    let r = suc (behind_e b q) in
    plain_code a (code_e a sc p) ++ (one (JumpFalse r) nd ++ (code_e b sc q ++ (one (Jump (behind_e c r)) nd ++ code_e c sc r)))

abbrev mutual
  pub code_c : Command → List Entry → ℕ → List Word
  code_c (assign nd a b) sc p =
      code_e a sc p ++ (one IsLoc nd ++ (plain_code b (code_e b sc (suc (behind_e a p))) ++ one Store nd))
  code_c (output nd a) sc p =
      plain_code a (code_e a sc p) ++ one Put nd
  code_c (when nd a b c) sc p =
      let q = suc (plain_end a (behind_e a p)) in
      let r = suc (behind_c b q) in
      plain_code a (code_e a sc p) ++ (one (JumpFalse r) nd ++ (code_c b sc q ++ (one (Jump (behind_c c r)) nd ++ code_c c sc r)))
  code_c (while nd a b) sc p =
      let q = suc (plain_end a (behind_e a p)) in
      plain_code a (code_e a sc p) ++ (one (JumpFalse (suc (behind_c b q))) nd ++ (code_c b sc q ++ one (Jump p) nd))
  code_c (block nd a b) sc p =
      one Enter nd ++ (code_d a sc (suc p) ++ (code_c b (scope_after a sc) (behind_d a (suc p)) ++ one Leave nd))
  code_c (sequence nd a b) sc p =
      code_c a sc p ++ code_c b sc (behind_c a p)
  code_c (procedure_call nd f a) sc p =
      code_e a sc p ++ one (Call (newer_of (place_of sc f))) nd

  pub code_d : Declaration → List Entry → ℕ → List Word
  code_d (constant nd x a) sc p =
      plain_code a (code_e a sc p) ++ one Bind nd
  code_d (variable nd x a) sc p =
      plain_code a (code_e a sc p) ++ one New nd
  code_d (procedure nd x a y) sc p =
      let q = suc (suc p) in
      one (Clos q) nd ++ (one (Jump (suc (behind_c a q))) nd ++ (code_c a (scope_inside y sc) q ++ one Ret nd))
  code_d (function nd x a y) sc p =
      let q = suc (suc p) in
      one (Clos q) nd ++ (one (Jump (suc (behind_e a q))) nd ++ (code_e a (scope_inside y sc) q ++ one Ret nd))
  code_d (pair nd a b) sc p =
      code_d a sc p ++ code_d b (scope_after a sc) (behind_d a p)

-- the code of a program
abbrev pub program : Command → List Word
program t = code_c t [] 0 ++ one Halt (node_c t)
