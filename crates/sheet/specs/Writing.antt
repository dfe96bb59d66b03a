-- What starting and finishing a sheet answer, and what the memory holds afterwards. Whatever lies behind what is written stays.
use Rattle.std.specs.Prelude.{ℕ, List, ◌++◌, length, drop, Some, None, Ok, Err, Option, Result}
use Rattle.vocabulary.specs.declared.refusal.Cause.TheVariants.{NoProgram}
use Rattle.vocabulary.specs.declared.refusal.Refusal.{Refusal}
use Rattle.vocabulary.specs.Refusals.{Verdict, refusal}
use Rattle.sheet.specs.declared.half.HalfSheet.{HalfSheet}
use Rattle.sheet.specs.Layout.{Program, offset_of, size_of, half_of, sheet_of}
use Rattle.sheet.specs.Sheets.{start_verdict, finish_verdict}

-- the half sheet that start gives: the count of nodes, and where the code begins
abbrev pub half_sheet_of : Program → HalfSheet
half_sheet_of p = record { nodes = length p.nodes; code_at = offset_of (length p.nodes) }

-- one thing where a verdict accepts, and another where it refuses
abbrev pub decided : {A : Type 0} → Verdict → A → (Refusal → A) → A
decided (Ok u) accepted refused = accepted
decided (Err e) accepted refused = refused e

abbrev pub start_answer : Option Program → List ℕ → Result HalfSheet Refusal
start_answer None memory = Err (refusal NoProgram 0)
start_answer (Some p) memory = decided (start_verdict (Some p) (length memory)) (Ok (half_sheet_of p)) Err

abbrev pub start_memory : Option Program → List ℕ → List ℕ
start_memory None memory = memory
start_memory (Some p) memory =
    decided (start_verdict (Some p) (length memory)) (half_of p ++ drop (offset_of (length p.nodes)) memory) (λ e. memory)

-- a refusal hands the half sheet back
abbrev pub finish_answer : Option Program → HalfSheet → List ℕ → Result ℕ (Refusal × HalfSheet)
finish_answer None half memory = Err (refusal NoProgram 0, half)
finish_answer (Some p) half memory = decided (finish_verdict (Some p) half memory) (Ok (size_of p)) (λ e. Err (e, half))

abbrev pub finish_memory : Option Program → HalfSheet → List ℕ → List ℕ
finish_memory None half memory = memory
finish_memory (Some p) half memory = decided (finish_verdict (Some p) half memory) (sheet_of p ++ drop (size_of p) memory) (λ e. memory)

-- a start and a finish in one: the finished sheet where there is room for it, and else nothing
abbrev pub archive_answer : Option Program → List ℕ → Result ℕ Refusal
archive_answer None memory = Err (refusal NoProgram 0)
archive_answer (Some p) memory = decided (start_verdict (Some p) (length memory)) (Ok (size_of p)) Err

abbrev pub archive_memory : Option Program → List ℕ → List ℕ
archive_memory None memory = memory
archive_memory (Some p) memory = decided (start_verdict (Some p) (length memory)) (sheet_of p ++ drop (size_of p) memory) (λ e. memory)
