-- Which tables and sheets become programs.
use Rattle.std.specs.Prelude.{◌≡◌, ℕ, List, Ok, Err, Result}
use Rattle.vocabulary.specs.declared.refusal.Refusal.{Refusal}
use Rattle.language.specs.Verdicts.{table_verdict}
use Rattle.sheet.specs.Faithful.{program_of}
use Rattle.sheet.specs.Sheets.{open_verdict, table_part}
use Rattle.sequencer.specs.declared.program.Program.{Program as Accepted}
use Rattle.sequencer.specs.Model.{held}

-- a table: the verdict on it, and accepted its nodes and their translation
abbrev pub Accepts : List ℕ → Result Accepted Refusal → Type 0
Accepts table (Ok p) = (table_verdict table ≡ Ok tt) × (held p ≡ program_of table)
Accepts table (Err e) = table_verdict table ≡ Err e

-- a sheet: the same of the table in it
abbrev pub AcceptsSheet : List ℕ → Result Accepted Refusal → Type 0
AcceptsSheet sheet (Ok p) = (open_verdict sheet ≡ Ok tt) × (held p ≡ program_of (table_part sheet))
AcceptsSheet sheet (Err e) = open_verdict sheet ≡ Err e
