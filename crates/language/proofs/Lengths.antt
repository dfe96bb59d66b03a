-- How long code is: with its DEREF an expression has at most 3 words a node, and so have commands and declarations.
use Rattle.std.proofs.Common.{ℕ, suc, ◌+◌, ◌*◌, ◌≤◌, List, [], length, arith, length-append}
use Rattle.language.specs.declared.name.Entry.{Entry}
use Rattle.language.specs.Scope.{scope_after, scope_inside}
use Rattle.language.specs.Translation.{code_e, code_c, code_d, program, behind_e, behind_c, behind_d}
use Rattle.language.specs.Tree.{Expression, Command, Declaration, size_e, size_c, size_d}
use Rattle.language.specs.Tree.Expression.{number, truth, read, name, operation, function_call, choice}
use Rattle.language.specs.Tree.Command.{assign, output, when, while, block, sequence, procedure_call}
use Rattle.language.specs.Tree.Declaration.{constant, variable, procedure, function, pair}

pub few_e : (t : Expression) (sc : List Entry) (p : ℕ) → length (code_e t sc p) + 1 ≤ 3 * size_e t
few_e (number nd z) sc p = omega arith
few_e (truth nd t) sc p = omega arith
few_e (read nd) sc p = omega arith
few_e (name nd x) sc p = omega arith
few_e (operation nd o a b) sc p = simp length-append (omega (arith, few_e a sc p, few_e b sc (suc (behind_e a p))))
few_e (function_call nd f a) sc p = simp length-append (omega (arith, few_e a sc p))
few_e (choice nd a b c) sc p =
    let q = suc (suc (behind_e a p)) in
    simp length-append (omega (arith, few_e a sc p, few_e b sc q, few_e c sc (suc (behind_e b q))))

mutual
  pub few_c : (t : Command) (sc : List Entry) (p : ℕ) → length (code_c t sc p) ≤ 3 * size_c t
  few_c (assign nd a b) sc p = simp length-append (omega (arith, few_e a sc p, few_e b sc (suc (behind_e a p))))
  few_c (output nd a) sc p = simp length-append (omega (arith, few_e a sc p))
  few_c (when nd a b c) sc p =
      let q = suc (suc (behind_e a p)) in
      simp length-append (omega (arith, few_e a sc p, few_c b sc q, few_c c sc (suc (behind_c b q))))
  few_c (while nd a b) sc p = simp length-append (omega (arith, few_e a sc p, few_c b sc (suc (suc (behind_e a p)))))
  few_c (block nd a b) sc p = simp length-append (omega (arith, few_d a sc (suc p), few_c b (scope_after a sc) (behind_d a (suc p))))
  few_c (sequence nd a b) sc p = simp length-append (omega (arith, few_c a sc p, few_c b sc (behind_c a p)))
  few_c (procedure_call nd f a) sc p = simp length-append (omega (arith, few_e a sc p))

  pub few_d : (t : Declaration) (sc : List Entry) (p : ℕ) → length (code_d t sc p) ≤ 3 * size_d t
  few_d (constant nd x a) sc p = simp length-append (omega (arith, few_e a sc p))
  few_d (variable nd x a) sc p = simp length-append (omega (arith, few_e a sc p))
  few_d (procedure nd x a y) sc p = simp length-append (omega (arith, few_c a (scope_inside y sc) (suc (suc p))))
  few_d (function nd x a y) sc p = simp length-append (omega (arith, few_e a (scope_inside y sc) (suc (suc p))))
  few_d (pair nd a b) sc p = simp length-append (omega (arith, few_d a sc p, few_d b (scope_after a sc) (behind_d a p)))

pub few_words : (t : Command) → length (program t) ≤ 3 * size_c t + 1
few_words t = simp length-append (omega (arith, few_c t [] 0))
