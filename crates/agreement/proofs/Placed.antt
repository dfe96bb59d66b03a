-- Where the code of a tree stands. `Stands prog p ws`: the words ws stand in prog from position p on. The code of a tree that stands
-- at p reaches to `behind` of the tree and p, so that what stands from p on can be taken apart into the code of its parts.
use Rattle.std.proofs.Common.{◌≡◌, ℕ, zero, suc, List, [], ◌∷◌, ◌++◌, drop, Some, refl, subst, arith}
use Rattle.vocabulary.specs.declared.code.Instruction.{Instruction}
use Rattle.vocabulary.specs.declared.code.Instruction.TheVariants.{Halt}
use Rattle.vocabulary.specs.declared.code.Word.{Word}
use Rattle.vocabulary.specs.Tables.{found}
use Rattle.language.specs.declared.name.Entry.{Entry}
use Rattle.language.specs.declared.name.Role.{Role}
use Rattle.language.specs.Tree.{Expression, Command, Declaration, node_c, size_e, size_c, size_d}
use Rattle.language.specs.Tree.Expression.{number, truth, read, name, operation, function_call, choice}
use Rattle.language.specs.Tree.Command.{assign, output, when, while, block, sequence, procedure_call}
use Rattle.language.specs.Tree.Declaration.{constant, variable, procedure, function, pair}
use Rattle.language.specs.Scope.{place_of, newer_of, scope_after, scope_inside}
use Rattle.language.specs.Names.{Names, NamedE, NamedC, NamedD}
use Rattle.language.specs.Translation.{plain_code, plain_end, behind_e, behind_c, behind_d, code_e, code_c, code_d, program}
use Rattle.agreement.proofs.Steps.{Is}

abbrev pub Stands : List Word → ℕ → List Word → Type 0
Stands prog p [] = Unit {0}
Stands prog p (x ∷ xs) = (found prog p ≡ Some x) × Stands prog (suc p) xs

-- the position behind words that stand at p
abbrev pub after : List Word → ℕ → ℕ
after [] p = p
after (x ∷ xs) p = after xs (suc p)

pub after-++ : (xs ys : List Word) (p : ℕ) → after (xs ++ ys) p ≡ after ys (after xs p)
after-++ [] ys p = refl
after-++ (x ∷ xs) ys p = after-++ xs ys (suc p)

-- the code of a tree ends where `behind` says
pub after_e : (t : Expression) (sc : List Entry) (p : ℕ) → after (code_e t sc p) p ≡ behind_e t p
after_e (number nd z) sc p = refl
after_e (truth nd t) sc p = refl
after_e (read nd) sc p = refl
after_e (name nd x) sc p = refl
after_e (operation nd o a b) sc p = simp (after-++, after_e a sc p, after_e b sc (plain_end a (behind_e a p)))
after_e (function_call nd f a) sc p = simp (after-++, after_e a sc p)
after_e (choice nd a b c) sc p =
    let q = suc (plain_end a (behind_e a p)) in
    simp (after-++, after_e a sc p, after_e b sc q, after_e c sc (suc (behind_e b q)))

mutual
  pub after_c : (t : Command) (sc : List Entry) (p : ℕ) → after (code_c t sc p) p ≡ behind_c t p
  after_c (assign nd a b) sc p = simp (after-++, after_e a sc p, after_e b sc (suc (behind_e a p)))
  after_c (output nd a) sc p = simp (after-++, after_e a sc p)
  after_c (when nd a b c) sc p =
      let q = suc (plain_end a (behind_e a p)) in
      simp (after-++, after_e a sc p, after_c b sc q, after_c c sc (suc (behind_c b q)))
  after_c (while nd a b) sc p = simp (after-++, after_e a sc p, after_c b sc (suc (plain_end a (behind_e a p))))
  after_c (block nd a b) sc p = simp (after-++, after_d a sc (suc p), after_c b (scope_after a sc) (behind_d a (suc p)))
  after_c (sequence nd a b) sc p = simp (after-++, after_c a sc p, after_c b sc (behind_c a p))
  after_c (procedure_call nd f a) sc p = simp (after-++, after_e a sc p)

  pub after_d : (t : Declaration) (sc : List Entry) (p : ℕ) → after (code_d t sc p) p ≡ behind_d t p
  after_d (constant nd x a) sc p = simp (after-++, after_e a sc p)
  after_d (variable nd x a) sc p = simp (after-++, after_e a sc p)
  after_d (procedure nd x a y) sc p = simp (after-++, after_c a (scope_inside y sc) (suc (suc p)))
  after_d (function nd x a y) sc p = simp (after-++, after_e a (scope_inside y sc) (suc (suc p)))
  after_d (pair nd a b) sc p = simp (after-++, after_d a sc p, after_d b (scope_after a sc) (behind_d a p))

-- a sort of trees with their code: which names are in order, the code, where it ends, and how many nodes there are
pub record Sort (T : Type 0) : Type 1 where
  pub Named : T → List Entry → Type 0
  pub code : T → List Entry → ℕ → List Word
  pub behind : T → ℕ → ℕ
  pub ends : (t : T) (sc : List Entry) (p : ℕ) → after (code t sc p) p ≡ behind t p
  pub size : T → ℕ

abbrev pub expressions : Sort Expression
expressions = record { Named = NamedE; code = code_e; behind = behind_e; ends = after_e; size = size_e }

-- expressions with the code that leaves their plain value
abbrev pub plains : Sort Expression
plains = record {
  Named = NamedE;
  code = λ t sc p. plain_code t (code_e t sc p);
  behind = λ t p. plain_end t (behind_e t p);
  ends = λ t sc p. simp (after-++, after_e t sc p);
  size = size_e;
}

abbrev pub commands : Sort Command
commands = record { Named = NamedC; code = code_c; behind = behind_c; ends = after_c; size = size_c }

abbrev pub declarations : Sort Declaration
declarations = record { Named = NamedD; code = code_d; behind = behind_d; ends = after_d; size = size_d }

-- the names of a tree are in order, and its code stands at a position
pub record Placed {T : Type 0} (σ : Sort T) (prog : List Word) (t : T) (sc : List Entry) (p : ℕ) : Type 0 where
  pub named : σ.Named t sc
  pub stands : Stands prog p (σ.code t sc p)

module _ (prog : List Word) where
  split : (xs ys : List Word) (p q : ℕ) → after xs p ≡ q → Stands prog p (xs ++ ys) → Stands prog p xs × Stands prog q ys
  split [] ys p q e s = (tt, subst (λ k. Stands prog k ys) e s)
  split (x ∷ xs) ys p q e s = let r = split xs ys (suc p) q e s.1 in ((s.0, r.0), r.1)

  -- a part with its names, and what stands behind it
  pub part : {T : Type 0} (σ : Sort T) (t : T) (sc : List Entry) (p : ℕ) (ys : List Word) → σ.Named t sc → Stands prog p (σ.code t sc p ++ ys) →
      Placed σ prog t sc p × Stands prog (σ.behind t p) ys
  part σ t sc p ys n s = let r = split (σ.code t sc p) ys p _ (σ.ends t sc p) s in (record { named = n; stands = r.0 }, r.1)

  -- the operand of LOOK and CALL is the place of the name
  pub operand_is : (i : ℕ → Instruction) (p nd : ℕ) (sc : List Entry) (x : ℕ) (role : Role) (n : Names sc x role) →
      Is prog p (i (newer_of (place_of sc x))) nd → Is prog p (i n.0) nd
  operand_is i p nd sc x role n s = subst (λ o. Is prog p (i (newer_of o)) nd) n.1 s

-- every list stands in itself
head_is : (l : List Word) (p : ℕ) (x : Word) (xs : List Word) → drop p l ≡ x ∷ xs → (found l p ≡ Some x) × (drop (suc p) l ≡ xs)
head_is [] zero x xs e = let z : ◌≡◌ {A = ℕ} 0 1 = cc in absurd (omega arith)
head_is [] (suc p) x xs e = let z : ◌≡◌ {A = ℕ} 0 1 = cc in absurd (omega arith)
head_is (y ∷ l) zero x xs e = (cc, cc)
head_is (y ∷ l) (suc p) x xs e = head_is l p x xs e

stands_in : (l xs : List Word) (p : ℕ) → drop p l ≡ xs → Stands l p xs
stands_in l [] p e = tt
stands_in l (x ∷ xs) p e = let q = head_is l p x xs e in (q.0, stands_in l xs (suc p) q.1)

-- in a program, the code of the tree stands at 0, and HALT behind it
pub program-stands : (t : Command) → NamedC t [] → Placed commands (program t) t [] 0 × Is (program t) (behind_c t 0) Halt (node_c t)
program-stands t n =
    let q = part (program t) commands t [] 0 _ n (stands_in (program t) (program t) 0 refl) in (q.0, q.1.0)
