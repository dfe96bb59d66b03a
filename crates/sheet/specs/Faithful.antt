-- What a sheet stands for: one accepted table, which opening gives back.
use Rattle.std.specs.Prelude.{◌≡◌, ℕ, ◌<◌, ◌≤◌, List, ◌++◌, length, take, Some, Ok, Err}
use Rattle.std.specs.List.{AllByRecursion}
use Rattle.vocabulary.specs.declared.refusal.Cause.TheVariants.{SheetHeader}
use Rattle.vocabulary.specs.Refusals.{refusal}
use Rattle.language.specs.Reading.{tree_of}
use Rattle.language.specs.Table.{nodes_of}
use Rattle.language.specs.Translation.{program}
use Rattle.language.specs.Verdicts.{table_verdict}
use Rattle.sheet.specs.Layout.{Program, archive, size_of, half_of, sheet_of}
use Rattle.sheet.specs.Sheets.{table_part, open_verdict}
use Rattle.sheet.specs.Writing.{half_sheet_of, start_memory, finish_answer, finish_memory}

-- every number is a byte
abbrev pub Bytes : List ℕ → Type 0
Bytes bytes = AllByRecursion (λ byte. byte < 256) bytes

-- the nodes of a table, with its translation
abbrev pub program_of : List ℕ → Program
program_of table = archive (nodes_of table) (program (tree_of (nodes_of table)))

-- the bytes are the sheet of an accepted table
pub record SheetOf (table sheet : List ℕ) : Type 0 where
  pub bytes : Bytes table
  pub accepted : table_verdict table ≡ Ok tt
  pub written : sheet ≡ sheet_of (program_of table)

-- a sheet is opened exactly when it is the sheet of an accepted table
pub record OpensExactly (sheet : List ℕ) : Type 0 where
  pub only : open_verdict sheet ≡ Ok tt → (table : List ℕ) × SheetOf table sheet
  pub every : (table : List ℕ) → SheetOf table sheet → open_verdict sheet ≡ Ok tt

abbrev pub OpensSheets : Type 0
OpensSheets = (sheet : List ℕ) → Bytes sheet → OpensExactly sheet

-- one sheet stands for one table
abbrev pub OneTable : Type 0
OneTable = (sheet table other : List ℕ) → SheetOf table sheet → SheetOf other sheet → table ≡ other

-- what the memory holds after a start and a finish of the table's program
abbrev pub written_in : List ℕ → List ℕ → List ℕ
written_in table memory = finish_memory (Some (program_of table)) (half_sheet_of (program_of table)) (start_memory (Some (program_of table)) memory)

-- a start and a finish in a memory with room are accepted, and the sheet that they leave opens, with the same nodes and code
pub record Reopens (table memory : List ℕ) : Type 0 where
  pub answer : finish_answer (Some (program_of table)) (half_sheet_of (program_of table)) (start_memory (Some (program_of table)) memory) ≡ Ok (size_of (program_of table))
  pub opens : open_verdict (take (size_of (program_of table)) (written_in table memory)) ≡ Ok tt
  pub same : program_of (table_part (take (size_of (program_of table)) (written_in table memory))) ≡ program_of table

abbrev pub Reopening : Type 0
Reopening = (table memory : List ℕ) → Bytes table → table_verdict table ≡ Ok tt → size_of (program_of table) ≤ length memory → Reopens table memory

-- a half sheet is never opened, whatever follows it
abbrev pub HalfRefused : Type 0
HalfRefused = (p : Program) (rest : List ℕ) → open_verdict (half_of p ++ rest) ≡ Err (refusal SheetHeader 0)
