-- A page worked out by hand: output 7, and the code that it is translated to.
use Rattle.std.specs.Prelude.{ℕ, List, [], ◌∷◌, ◌++◌, pos, codes}
use Rattle.vocabulary.specs.declared.code.Instruction.{Instruction}
use Rattle.vocabulary.specs.declared.code.Instruction.TheVariants.{Num, Deref, Put, Halt}
use Rattle.vocabulary.specs.declared.code.Word.{Word}
use Rattle.vocabulary.specs.declared.node.Node.{Node}
use Rattle.listing.specs.Page.{line}

abbrev word : Instruction → ℕ → Word
word i n = record { instruction = i; node = n }

abbrev pub example_nodes : List Node
example_nodes = record { kind = 20; tag = 0; a = 0; b = 7; c = 0 } ∷ record { kind = 2; tag = 0; a = 0; b = 0; c = 0 } ∷ []

abbrev pub example_code : List Word
example_code = word (Num (pos 7)) 0 ∷ word Deref 0 ∷ word Put 1 ∷ word Halt 1 ∷ []

abbrev pub example_page : List ℕ
example_page =
    line (codes "Tree: 2 nodes")
    ++ line (codes " node  level  form")
    ++ line (codes "    1      0  output")
    ++ line (codes "    0      1    number 7")
    ++ line (codes "")
    ++ line (codes "Code: 4 words")
    ++ line (codes "position  instruction      operand   node")
    ++ line (codes "       0  NUM                    7      0")
    ++ line (codes "       1  DEREF                  0      0")
    ++ line (codes "       2  PUT                    0      1")
    ++ line (codes "       3  HALT                   0      1")
