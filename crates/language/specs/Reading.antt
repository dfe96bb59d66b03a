-- The tree that a table of nodes holds.
use Rattle.std.specs.Prelude.{ℕ, zero, suc, ◌+◌, ◌*◌, Bool, cond, List, ℤ, pos, ◌==◌}
use Rattle.std.specs.Int.{w32}
use Rattle.std.proofs.Common.{to_z}
use Rattle.vocabulary.specs.declared.code.Operation.{Operation}
use Rattle.vocabulary.specs.declared.code.Operation.TheVariants.{Sum, Difference, Product, Quotient, Equal, Less}
use Rattle.vocabulary.specs.declared.node.Node.{Node}
use Rattle.language.specs.Table.{at, root_of}
use Rattle.language.specs.Tree.{Expression, Command, Declaration}
use Rattle.language.specs.Tree.Expression.{number, truth, read, name, operation, function_call, choice}
use Rattle.language.specs.Tree.Command.{assign, output, when, while, block, sequence, procedure_call}
use Rattle.language.specs.Tree.Declaration.{constant, variable, procedure, function, pair}

-- the signed number of which b is the low half and c the high half
abbrev pub number_in : Node → ℤ
number_in d = to_z w32 (d.b + d.c * 65536)

-- the operation of an operator number
abbrev pub operation_of : ℕ → Operation
operation_of o = cond (o == 1) Sum (cond (o == 2) Difference (cond (o == 3) Product (cond (o == 4) Quotient (cond (o == 5) Equal Less))))

-- what a node says, by its kind; a child is given by its number
pub data FormE : Type 0 where
  number_f : ℤ → FormE
  truth_f : Bool → FormE
  read_f : FormE
  name_f : ℕ → FormE
  operation_f : Operation → ℕ → ℕ → FormE
  function_call_f : ℕ → ℕ → FormE
  choice_f : ℕ → ℕ → ℕ → FormE

pub data FormC : Type 0 where
  assign_f : ℕ → ℕ → FormC
  output_f : ℕ → FormC
  when_f : ℕ → ℕ → ℕ → FormC
  while_f : ℕ → ℕ → FormC
  block_f : ℕ → ℕ → FormC
  sequence_f : ℕ → ℕ → FormC
  procedure_call_f : ℕ → ℕ → FormC

pub data FormD : Type 0 where
  constant_f : ℕ → ℕ → FormD
  variable_f : ℕ → ℕ → FormD
  procedure_f : ℕ → ℕ → ℕ → FormD
  function_f : ℕ → ℕ → ℕ → FormD
  pair_f : ℕ → ℕ → FormD

unfoldable pub form_e : Node → FormE
form_e d =
    cond (d.kind == 20) (number_f (number_in d))
    (cond (d.kind == 21) (truth_f (d.tag == 1))
    (cond (d.kind == 22) read_f
    (cond (d.kind == 23) (name_f d.tag)
    (cond (d.kind == 24) (operation_f (operation_of d.tag) d.a d.b)
    (cond (d.kind == 25) (function_call_f d.tag d.a)
    (choice_f d.a d.b d.c))))))

unfoldable pub form_c : Node → FormC
form_c d =
    cond (d.kind == 1) (assign_f d.a d.b)
    (cond (d.kind == 2) (output_f d.a)
    (cond (d.kind == 3) (when_f d.a d.b d.c)
    (cond (d.kind == 4) (while_f d.a d.b)
    (cond (d.kind == 5) (block_f d.a d.b)
    (cond (d.kind == 6) (sequence_f d.a d.b)
    (procedure_call_f d.tag d.a))))))

unfoldable pub form_d : Node → FormD
form_d d =
    cond (d.kind == 10) (constant_f d.tag d.a)
    (cond (d.kind == 11) (variable_f d.tag d.a)
    (cond (d.kind == 12) (procedure_f d.tag d.a d.c)
    (cond (d.kind == 13) (function_f d.tag d.a d.c)
    (pair_f d.a d.b))))

-- the tree of a form, from the trees of lower nodes
abbrev pub grow_e : (ℕ → Expression) → ℕ → FormE → Expression
grow_e e n (number_f z) = number n z
grow_e e n (truth_f t) = truth n t
grow_e e n read_f = read n
grow_e e n (name_f x) = name n x
grow_e e n (operation_f o a b) = operation n o (e a) (e b)
grow_e e n (function_call_f f a) = function_call n f (e a)
grow_e e n (choice_f a b c) = choice n (e a) (e b) (e c)

abbrev pub grow_c : (ℕ → Expression) → (ℕ → Command) → (ℕ → Declaration) → ℕ → FormC → Command
grow_c e c d n (assign_f x y) = assign n (e x) (e y)
grow_c e c d n (output_f x) = output n (e x)
grow_c e c d n (when_f x y z) = when n (e x) (c y) (c z)
grow_c e c d n (while_f x y) = while n (e x) (c y)
grow_c e c d n (block_f x y) = block n (d x) (c y)
grow_c e c d n (sequence_f x y) = sequence n (c x) (c y)
grow_c e c d n (procedure_call_f f x) = procedure_call n f (e x)

abbrev pub grow_d : (ℕ → Expression) → (ℕ → Command) → (ℕ → Declaration) → ℕ → FormD → Declaration
grow_d e c d n (constant_f x a) = constant n x (e a)
grow_d e c d n (variable_f x a) = variable n x (e a)
grow_d e c d n (procedure_f x a y) = procedure n x (c a) y
grow_d e c d n (function_f x a y) = function n x (e a) y
grow_d e c d n (pair_f a b) = pair n (d a) (d b)

-- the tree at a node, where children are looked up `depth` times at most; a depth above the node's number never runs out
unfoldable pub grown_e : ℕ → List Node → ℕ → Expression
grown_e zero nodes n = number n (pos 0)
grown_e (suc depth) nodes n = grow_e (λ a. grown_e depth nodes a) n (form_e (at nodes n))

unfoldable mutual
  pub grown_c : ℕ → List Node → ℕ → Command
  grown_c zero nodes n = output n (number n (pos 0))
  grown_c (suc depth) nodes n = grow_c (λ a. grown_e depth nodes a) (λ a. grown_c depth nodes a) (λ a. grown_d depth nodes a) n (form_c (at nodes n))

  pub grown_d : ℕ → List Node → ℕ → Declaration
  grown_d zero nodes n = variable n 0 (number n (pos 0))
  grown_d (suc depth) nodes n = grow_d (λ a. grown_e depth nodes a) (λ a. grown_c depth nodes a) (λ a. grown_d depth nodes a) n (form_d (at nodes n))

-- the tree at a node
unfoldable pub tree_e : List Node → ℕ → Expression
tree_e nodes n = grown_e (suc n) nodes n

unfoldable pub tree_c : List Node → ℕ → Command
tree_c nodes n = grown_c (suc n) nodes n

unfoldable pub tree_d : List Node → ℕ → Declaration
tree_d nodes n = grown_d (suc n) nodes n

-- the tree of a table: that of its last node
abbrev pub tree_of : List Node → Command
tree_of nodes = tree_c nodes (root_of nodes)
