-- The trees of Small, in three sorts. Each node carries its number in the table first.
-- The endings E, C and D stand for expression, command and declaration throughout.
use Rattle.std.specs.Prelude.{ℕ, suc, ◌+◌, Bool, ℤ}
use Rattle.vocabulary.specs.declared.code.Operation.{Operation}

pub data Expression : Type 0 where
  number : ℕ → ℤ → Expression
  truth : ℕ → Bool → Expression
  read : ℕ → Expression
  name : ℕ → ℕ → Expression
  operation : ℕ → Operation → Expression → Expression → Expression
  function_call : ℕ → ℕ → Expression → Expression
  choice : ℕ → Expression → Expression → Expression → Expression

-- a procedure and a function carry their name, then the body, then the parameter's name
mutual
  pub data Command : Type 0 where
    assign : ℕ → Expression → Expression → Command
    output : ℕ → Expression → Command
    when : ℕ → Expression → Command → Command → Command
    while : ℕ → Expression → Command → Command
    block : ℕ → Declaration → Command → Command
    sequence : ℕ → Command → Command → Command
    procedure_call : ℕ → ℕ → Expression → Command

  pub data Declaration : Type 0 where
    constant : ℕ → ℕ → Expression → Declaration
    variable : ℕ → ℕ → Expression → Declaration
    procedure : ℕ → ℕ → Command → ℕ → Declaration
    function : ℕ → ℕ → Expression → ℕ → Declaration
    pair : ℕ → Declaration → Declaration → Declaration

-- the number of the node at the top of a tree
abbrev pub node_e : Expression → ℕ
node_e (number nd z) = nd
node_e (truth nd t) = nd
node_e (read nd) = nd
node_e (name nd x) = nd
node_e (operation nd o a b) = nd
node_e (function_call nd f a) = nd
node_e (choice nd a b c) = nd

abbrev pub node_c : Command → ℕ
node_c (assign nd a b) = nd
node_c (output nd a) = nd
node_c (when nd a b c) = nd
node_c (while nd a b) = nd
node_c (block nd a b) = nd
node_c (sequence nd a b) = nd
node_c (procedure_call nd f a) = nd

-- how many nodes a tree has
abbrev pub size_e : Expression → ℕ
size_e (number nd z) = 1
size_e (truth nd t) = 1
size_e (read nd) = 1
size_e (name nd x) = 1
size_e (operation nd o a b) = suc (size_e a + size_e b)
size_e (function_call nd f a) = suc (size_e a)
size_e (choice nd a b c) = suc (size_e a + size_e b + size_e c)

abbrev mutual
  pub size_c : Command → ℕ
  size_c (assign nd a b) = suc (size_e a + size_e b)
  size_c (output nd a) = suc (size_e a)
  size_c (when nd a b c) = suc (size_e a + size_c b + size_c c)
  size_c (while nd a b) = suc (size_e a + size_c b)
  size_c (block nd a b) = suc (size_d a + size_c b)
  size_c (sequence nd a b) = suc (size_c a + size_c b)
  size_c (procedure_call nd f a) = suc (size_e a)

  pub size_d : Declaration → ℕ
  size_d (constant nd x a) = suc (size_e a)
  size_d (variable nd x a) = suc (size_e a)
  size_d (procedure nd x a y) = suc (size_c a)
  size_d (function nd x a y) = suc (size_e a)
  size_d (pair nd a b) = suc (size_d a + size_d b)
