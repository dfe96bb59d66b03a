-- Small programs as bytes of tables.
use Rattle.std.specs.Prelude.{ℕ, List, ◌∷◌, ◌++◌}
use Rattle.language.specs.Reading.{tree_of}
use Rattle.language.specs.Table.{nodes_of}
use Rattle.language.specs.Translation.{program}
use Rattle.language.specs.Tree.{Command}
use Rattle.sheet.specs.Layout.{two}
use Rattle.vocabulary.specs.declared.code.Word.{Word}

-- the 8 bytes of a node
abbrev pub node : ℕ → ℕ → ℕ → ℕ → ℕ → List ℕ
node kind tag a b c = kind ∷ tag ∷ (two a ++ (two b ++ two c))

-- a number, by its low and its high 16 bits
abbrev pub number : ℕ → ℕ → List ℕ
number low high = node 20 0 0 low high

abbrev pub output : ℕ → List ℕ
output a = node 2 0 a 0 0

abbrev pub name : ℕ → List ℕ
name x = node 23 x 0 0 0

-- the tree of a table, and its code
abbrev pub tree_in : List ℕ → Command
tree_in table = tree_of (nodes_of table)

abbrev pub code_in : List ℕ → List Word
code_in table = program (tree_in table)

-- output 7
abbrev pub one_output : List ℕ
one_output = number 7 0 ++ output 0

-- variable 1 is 2; while 0 < 1: output 1, then 1 := 1 - one
abbrev pub countdown : List ℕ
countdown =
    number 2 0 ++ (node 11 1 0 0 0 ++ (number 0 0 ++ (name 1 ++ (node 24 6 2 3 0
    ++ (name 1 ++ (output 5 ++ (name 1 ++ (name 1 ++ (number 1 0 ++ (node 24 2 8 9 0
    ++ (node 1 0 7 10 0 ++ (node 6 0 6 11 0 ++ (node 4 0 4 12 0 ++ node 5 0 1 13 0)))))))))))))

-- output the operation of two numbers
abbrev pub output_of : ℕ → List ℕ → List ℕ → List ℕ
output_of operator left right = left ++ (right ++ (node 24 operator 0 1 0 ++ output 2))

-- 3 := read
abbrev pub assign_to_number : List ℕ
assign_to_number = number 3 0 ++ (node 22 0 0 0 0 ++ node 1 0 0 1 0)

-- output read
abbrev pub output_read : List ℕ
output_read = node 22 0 0 0 0 ++ output 0

-- variable 1 is 1, procedure 2 with parameter 3 does 3 := 5; call 2 with 1, then output 1
abbrev pub assign_parameter : List ℕ
assign_parameter =
    number 1 0 ++ (node 11 1 0 0 0 ++ (name 3 ++ (number 5 0 ++ (node 1 0 2 3 0
    ++ (node 12 2 4 0 3 ++ (node 14 0 1 5 0 ++ (name 1 ++ (node 7 2 7 0 0
    ++ (name 1 ++ (output 9 ++ (node 6 0 8 10 0 ++ node 5 0 6 11 0)))))))))))
