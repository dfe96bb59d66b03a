-- The source meaning: what a tree does, without instructions. A visit is counted whenever a node begins, and for a while at
-- each test instead. The work of a node is given how deep it may go and how many visits are left; the depth starts equal to
-- the visits, so that the visits run out first.
use Rattle.std.specs.Prelude.{ℕ, zero, suc, true, false, List, [], ◌∷◌, ◌++◌, length, take, slice_set}
use Rattle.vocabulary.specs.declared.end.End.{End}
use Rattle.vocabulary.specs.declared.end.End.TheVariants.{Halt}
use Rattle.vocabulary.specs.declared.value.Plain.TheVariants.{Number, Truth}
use Rattle.vocabulary.specs.declared.value.Value.{Value}
use Rattle.vocabulary.specs.declared.value.Value.TheVariants.{Plain as plain, Location}
use Rattle.vocabulary.specs.World.{World, Rules, with_cells, has_room}
use Rattle.language.specs.Tree.{Expression, Command, Declaration, node_c}
use Rattle.language.specs.Tree.Expression.{number, truth, read, name, operation, function_call, choice}
use Rattle.language.specs.Tree.Command.{assign, output, when, while, block, sequence, procedure_call}
use Rattle.language.specs.Tree.Declaration.{constant, variable, procedure, function, pair}
use Rattle.language.specs.Outcomes.{Binding, Outcome, bind, find, valued, as_procedure, as_function, plainly, taken, answered, tested, located, putting}
use Rattle.language.specs.Outcomes.Binding.{binding}
use Rattle.language.specs.Outcomes.Denoted.{value, procedure_body, function_body}
use Rattle.language.specs.Outcomes.Outcome.{done, ended, cut, lost}

module _ (R : Rules) where
  unfoldable mutual
    pub eval_e : ℕ → Expression → List Binding → World → ℕ → Outcome Value
    eval_e zero t bs w b = cut w
    eval_e (suc g) t bs w zero = cut w
    eval_e (suc g) (number nd z) bs w (suc b) = done (plain (Number z)) w b
    eval_e (suc g) (truth nd t) bs w (suc b) = done (plain (Truth t)) w b
    eval_e (suc g) (read nd) bs w (suc b) = taken nd w.feed w b
    eval_e (suc g) (name nd x) bs w (suc b) = valued (find bs x) w b
    eval_e (suc g) (operation nd o a c) bs w (suc b) =
        bind (plainly (eval_e g a bs w b)) λ x w₁ b₁.
        bind (plainly (eval_e g c bs w₁ b₁)) λ y w₂ b₂.
        answered nd (R.operate o (plain x) (plain y)) w₂ b₂
    eval_e (suc g) (function_call nd f a) bs w (suc b) =
        bind (eval_e g a bs w b) λ v w₁ b₁.
        as_function (find bs f) λ y t rest. eval_e g t (binding y (value v) ∷ rest) w₁ b₁
    eval_e (suc g) (choice nd a c d) bs w (suc b) =
        bind (plainly (eval_e g a bs w b)) λ x w₁ b₁.
        tested nd x w₁ b₁ λ t. elim t [ true ↦ eval_e g c bs w₁ b₁ | false ↦ eval_e g d bs w₁ b₁ ]

    pub eval_c : ℕ → Command → List Binding → World → ℕ → Outcome (Unit {0})
    eval_c zero t bs w b = cut w
    eval_c (suc g) t bs w zero = cut w
    eval_c (suc g) (assign nd a c) bs w (suc b) =
        bind (eval_e g a bs w b) λ v w₁ b₁.
        located nd v w₁ b₁ λ l.
        bind (plainly (eval_e g c bs w₁ b₁)) λ p w₂ b₂.
        done tt (with_cells w₂ (slice_set w₂.cells l p)) b₂
    eval_c (suc g) (output nd a) bs w (suc b) =
        bind (plainly (eval_e g a bs w b)) λ p w₁ b₁.
        putting nd R p w₁ b₁ (has_room R p w₁)
    eval_c (suc g) (when nd a c d) bs w (suc b) =
        bind (plainly (eval_e g a bs w b)) λ x w₁ b₁.
        tested nd x w₁ b₁ λ t. elim t [ true ↦ eval_c g c bs w₁ b₁ | false ↦ eval_c g d bs w₁ b₁ ]
    eval_c (suc g) (while nd a c) bs w (suc b) =
        bind (plainly (eval_e g a bs w b)) λ x w₁ b₁.
        tested nd x w₁ b₁ λ t. elim t [
          | true ↦ bind (eval_c g c bs w₁ b₁) (λ u w₂ b₂. eval_c g (while nd a c) bs w₂ b₂)
          | false ↦ done tt w₁ b₁
        ]
    eval_c (suc g) (block nd d c) bs w (suc b) =
        bind (eval_d g d bs w b) λ bs₁ w₁ b₁.
        bind (eval_c g c bs₁ w₁ b₁) λ u w₂ b₂.
        done tt (with_cells w₂ (take (length w.cells) w₂.cells)) b₂
    eval_c (suc g) (sequence nd a c) bs w (suc b) =
        bind (eval_c g a bs w b) λ u w₁ b₁. eval_c g c bs w₁ b₁
    eval_c (suc g) (procedure_call nd f a) bs w (suc b) =
        bind (eval_e g a bs w b) λ v w₁ b₁.
        as_procedure (find bs f) λ y t rest. eval_c g t (binding y (value v) ∷ rest) w₁ b₁

    pub eval_d : ℕ → Declaration → List Binding → World → ℕ → Outcome (List Binding)
    eval_d zero t bs w b = cut w
    eval_d (suc g) t bs w zero = cut w
    eval_d (suc g) (constant nd x a) bs w (suc b) =
        bind (plainly (eval_e g a bs w b)) λ p w₁ b₁. done (binding x (value (plain p)) ∷ bs) w₁ b₁
    eval_d (suc g) (variable nd x a) bs w (suc b) =
        bind (plainly (eval_e g a bs w b)) λ p w₁ b₁.
        done (binding x (value (Location (length w₁.cells))) ∷ bs) (with_cells w₁ (w₁.cells ++ (p ∷ []))) b₁
    eval_d (suc g) (procedure nd x t y) bs w (suc b) = done (binding x (procedure_body y t) ∷ bs) w b
    eval_d (suc g) (function nd x t y) bs w (suc b) = done (binding x (function_body y t) ∷ bs) w b
    eval_d (suc g) (pair nd a c) bs w (suc b) =
        bind (eval_d g a bs w b) λ bs₁ w₁ b₁. eval_d g c bs₁ w₁ b₁

-- the whole program unfinished k visits
pub data Course : Type 0 where
  finished : End → ℕ → World → ℕ → Course
  unfinished : World → Course
  meaningless : Course

abbrev pub course_of : ℕ → Outcome (Unit {0}) → Course
course_of nd (done u w b) = finished Halt nd w b
course_of nd (ended e n w b) = finished e n w b
course_of nd (cut w) = unfinished w
course_of nd lost = meaningless

-- the meaning of a program within k visits
unfoldable pub meaning : Rules → Command → World → ℕ → Course
meaning R t w k = course_of (node_c t) (eval_c R k t [] w k)
