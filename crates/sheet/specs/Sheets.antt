-- Which sheets are written, finished and opened, and which fault is answered first.
use Rattle.std.specs.Prelude.{ℕ, ◌*◌, Bool, ◌&&◌, List, length, take, drop, Some, None, Err, Option, ◌==◌, nat_le}
use Rattle.std.specs.Result.{result_and}
use Rattle.std.specs.Str.{bytes_eq}
use Rattle.vocabulary.specs.declared.refusal.Cause.TheVariants.{NoProgram, MemoryShort, NotThisHalf, SheetHeader, NotTheTranslation}
use Rattle.vocabulary.specs.Refusals.{Verdict, refusal, unless}
use Rattle.language.specs.Reading.{tree_of}
use Rattle.language.specs.Table.{field, nodes_of}
use Rattle.language.specs.Translation.{program}
use Rattle.language.specs.Verdicts.{table_verdict}
use Rattle.sheet.specs.declared.half.HalfSheet.{HalfSheet}
use Rattle.sheet.specs.Layout.{Program, offset_of, total_of, size_of, half_of, code_bytes}

-- starting a sheet in a memory of some size
abbrev pub start_verdict : Option Program → ℕ → Verdict
start_verdict None size = Err (refusal NoProgram 0)
start_verdict (Some p) size = unless (nat_le (size_of p) size) MemoryShort 0

-- whether a half sheet is of the program's size, and a memory begins with the program's half
abbrev pub is_half : Program → HalfSheet → List ℕ → Bool
is_half p half memory =
    (half.nodes == length p.nodes) && half.code_at == offset_of (length p.nodes)
    && bytes_eq (take (offset_of (length p.nodes)) memory) (half_of p)

-- finishing the sheet in a memory
abbrev pub finish_verdict : Option Program → HalfSheet → List ℕ → Verdict
finish_verdict None half memory = Err (refusal NoProgram 0)
finish_verdict (Some p) half memory =
    result_and (unless (nat_le (size_of p) (length memory)) MemoryShort 0) (unless (is_half p half memory) NotThisHalf 0)

-- the header's counts of nodes and words
abbrev pub node_count : List ℕ → ℕ
node_count sheet = field sheet 2

abbrev pub word_count : List ℕ → ℕ
word_count sheet = field sheet 4

-- every field of the header is as the two counts give it, and the sheet is as long as the total says
abbrev pub framed : List ℕ → Bool
framed sheet =
    let offset = offset_of (node_count sheet) in
    let total = total_of (node_count sheet) (word_count sheet) in
    (field sheet 0 == 1) && field sheet 6 == 16 && field sheet 8 == offset && field sheet 10 == total
    && field sheet 12 == 0 && field sheet 14 == 0 && length sheet == total

-- the bytes of the nodes, and those of the code
abbrev pub table_part : List ℕ → List ℕ
table_part sheet = take (8 * node_count sheet) (drop 16 sheet)

abbrev pub code_part : List ℕ → List ℕ
code_part sheet = drop (offset_of (node_count sheet)) sheet

-- opening a sheet: the header, then the table, then the code, which has to be the tree's translation
abbrev pub open_verdict : List ℕ → Verdict
open_verdict sheet =
    result_and (unless (framed sheet) SheetHeader 0)
    (result_and (table_verdict (table_part sheet))
    (unless (bytes_eq (code_part sheet) (code_bytes (program (tree_of (nodes_of (table_part sheet)))))) NotTheTranslation 0))
