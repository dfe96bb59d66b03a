-- The page of a program, byte for byte: its tree, a line for each node, and its code, a line for each word.
use Rattle.std.specs.Prelude.{ℕ, ◌+◌, ◌-◌, ◌*◌, min, List, [], ◌∷◌, ◌++◌, length, replicate, codes, decimal}
use Rattle.std.specs.List.{flat_map}
use Rattle.std.specs.Fmt.{signed_decimal}
use Rattle.vocabulary.specs.declared.code.Word.{Word}
use Rattle.vocabulary.specs.declared.node.Node.{Node}
use Rattle.vocabulary.specs.Codes.{name_of, operand_of}
use Rattle.language.specs.Table.{at}
use Rattle.language.specs.Words.{words_of}
use Rattle.listing.specs.declared.rows.Row.{Row}
use Rattle.listing.specs.Rows.{rows_of}

-- so many spaces
abbrev pub spaces : ℕ → List ℕ
spaces count = replicate count 32

-- a text at the right or at the left of so many columns; a text with more bytes stands whole
abbrev pub right : ℕ → List ℕ → List ℕ
right columns text = spaces (columns - length text) ++ text

abbrev pub left : ℕ → List ℕ → List ℕ
left columns text = text ++ spaces (columns - length text)

-- a line, which byte 10 ends
abbrev pub line : List ℕ → List ℕ
line text = text ++ (10 ∷ [])

-- the line of a node: its number, its level, and its form, indented by its level up to level 30
abbrev pub tree_line : List Node → Row → List ℕ
tree_line nodes r =
    line (right 5 (decimal r.node) ++ right 7 (decimal r.level) ++ spaces (2 + 2 * min r.level 30) ++ words_of (at nodes r.node))

-- the line of a word: its position, its instruction with the operand, and the node that it comes from
abbrev pub code_line : ℕ → Word → List ℕ
code_line position w =
    line (right 8 (decimal position) ++ spaces 2 ++ left 11 (name_of w.instruction) ++ right 13 (signed_decimal (operand_of w.instruction)) ++ right 7 (decimal w.node))

-- the lines of words from a position on
abbrev pub code_lines : ℕ → List Word → List ℕ
code_lines position [] = []
code_lines position (w ∷ ws) = code_line position w ++ code_lines (position + 1) ws

-- how many nodes or words there are, over the heads of the columns
abbrev pub tree_heading : ℕ → List ℕ
tree_heading count = line (codes "Tree: " ++ decimal count ++ codes " nodes") ++ line (codes " node  level  form")

abbrev pub code_heading : ℕ → List ℕ
code_heading count = line (codes "Code: " ++ decimal count ++ codes " words") ++ line (codes "position  instruction      operand   node")

-- the tree: its heading, and the lines of its rows
unfoldable pub tree_part : List Node → List ℕ
tree_part nodes = tree_heading (length nodes) ++ flat_map (tree_line nodes) (rows_of nodes)

-- the code: its heading, and the lines of its words
unfoldable pub code_part : List Word → List ℕ
code_part code = code_heading (length code) ++ code_lines 0 code

-- the tree, an empty line, and the code
abbrev pub page : List Node → List Word → List ℕ
page nodes code = tree_part nodes ++ line [] ++ code_part code
