-- The bytes of a sheet, full and half.
use Rattle.std.specs.Prelude.{ℕ, ◌+◌, ◌*◌, ◌/◌, ◌%◌, List, [], ◌∷◌, ◌++◌, length}
use Rattle.std.specs.Int.{w32}
use Rattle.std.proofs.Common.{of_z}
use Rattle.vocabulary.specs.Codes.{opcode_of, operand_of}
use Rattle.vocabulary.specs.declared.code.Word.{Word}
use Rattle.vocabulary.specs.declared.node.Node.{Node}

-- what a sheet archives: the nodes of a table, and its code
pub record Program : Type 0 where
  pub nodes : List Node
  pub code : List Word

abbrev pub archive : List Node → List Word → Program
archive nodes code = record { nodes = nodes; code = code }

-- 16 and 32 bits, low byte first
abbrev pub two : ℕ → List ℕ
two n = n % 256 ∷ n / 256 % 256 ∷ []

abbrev pub four : ℕ → List ℕ
four n = n % 256 ∷ n / 256 % 256 ∷ n / 65536 % 256 ∷ n / 16777216 % 256 ∷ []

-- a node: kind, byte 1, and the fields a, b and c
abbrev pub node_bytes : Node → List ℕ
node_bytes d = d.kind ∷ d.tag ∷ (two d.a ++ (two d.b ++ two d.c))

-- a code word: opcode, 0, node, and the operand as a signed 32-bit number
abbrev pub word_bytes : Word → List ℕ
word_bytes w = opcode_of w.instruction ∷ 0 ∷ (two w.node ++ four (of_z w32 (operand_of w.instruction)))

-- one after the other
abbrev pub encoded : {X : Type 0} → (X → List ℕ) → List X → List ℕ
encoded bytes [] = []
encoded bytes (x ∷ xs) = bytes x ++ encoded bytes xs

abbrev pub table_bytes : List Node → List ℕ
table_bytes ds = encoded node_bytes ds

abbrev pub code_bytes : List Word → List ℕ
code_bytes ws = encoded word_bytes ws

-- the header: 1, the count of nodes, the count of words, 16, the code's offset, the total, 0, 0
abbrev pub header : ℕ → ℕ → ℕ → ℕ → List ℕ
header n m offset total = two 1 ++ (two n ++ (two m ++ (two 16 ++ (two offset ++ (two total ++ (two 0 ++ two 0))))))

-- where the code begins, and how many bytes the sheet has
abbrev pub offset_of : ℕ → ℕ
offset_of n = 16 + 8 * n

abbrev pub total_of : ℕ → ℕ → ℕ
total_of n m = 16 + 8 * n + 8 * m

abbrev pub size_of : Program → ℕ
size_of p = total_of (length p.nodes) (length p.code)

-- a half sheet: count of words, offset and total are 0, and the code is not there
abbrev pub half_of : Program → List ℕ
half_of p = header (length p.nodes) 0 0 0 ++ table_bytes p.nodes

-- a finished sheet
abbrev pub sheet_of : Program → List ℕ
sheet_of p =
    header (length p.nodes) (length p.code) (offset_of (length p.nodes)) (size_of p) ++ (table_bytes p.nodes ++ code_bytes p.code)
