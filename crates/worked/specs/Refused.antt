-- A small example of each refusal that a table, a sheet or a ramp meets.
use Rattle.std.specs.Prelude.{◌≡◌, ℕ, false, List, [], ◌++◌, take, replicate, pos, Some, None, Ok, Err, slice_set}
use Rattle.vocabulary.specs.declared.refusal.Cause.{Cause}
use Rattle.vocabulary.specs.declared.refusal.Cause.TheVariants.{NoProgram, TableLength, FieldRule, ChildNotLower, ChildSort, NotOneParent, RootNotCommand, NameNotVisible, NameRole, MemoryShort, NotThisHalf, SheetHeader, NotTheTranslation}
use Rattle.vocabulary.specs.Refusals.{refusal}
use Rattle.language.specs.Verdicts.{table_verdict}
use Rattle.ports.specs.Ramps.{ramp_fits}
use Rattle.sheet.specs.Faithful.{program_of}
use Rattle.sheet.specs.Layout.{sheet_of, half_of}
use Rattle.sheet.specs.Sheets.{start_verdict, finish_verdict, open_verdict}
use Rattle.sheet.specs.Writing.{half_sheet_of}
use Rattle.worked.specs.Programs.{node, number, output, name, one_output}

-- the table is refused with this cause at this node
abbrev pub Refuses : List ℕ → Cause → ℕ → Type 0
Refuses table cause n = table_verdict table ≡ Err (refusal cause n)

-- a program, and a memory of 64 bytes in which its half sheet was begun
abbrev pub begun : List ℕ
begun = half_of (program_of one_output) ++ replicate 32 0

pub record RefusedExamples : Type 0 where
  -- 7 bytes; none; 513 nodes
  pub seven_bytes : Refuses (replicate 7 0) TableLength 0
  pub no_bytes : Refuses [] TableLength 0
  pub many_nodes : Refuses (replicate 4104 0) TableLength 0
  -- kind 8 does not exist
  pub unknown_kind : Refuses (node 8 0 0 0 0) FieldRule 0
  -- an output of itself
  pub own_child : Refuses (output 0) ChildNotLower 0
  -- an output of an output
  pub output_of_output : Refuses (number 7 0 ++ (output 0 ++ output 1)) ChildSort 2
  -- the number 1 is nobody's child
  pub orphan : Refuses (number 1 0 ++ (number 7 0 ++ output 1)) NotOneParent 0
  -- a number alone
  pub no_command : Refuses (number 7 0) RootNotCommand 0
  -- name 5 is declared nowhere
  pub undeclared : Refuses (name 5 ++ output 0) NameNotVisible 0
  -- the name of a procedure is no value
  pub procedure_as_value : Refuses (number 7 0 ++ (output 0 ++ (node 12 1 1 0 2 ++ (name 1 ++ (output 3 ++ node 5 0 2 4 0))))) NameRole 3
  -- no program; 63 bytes for a sheet of 64, which 64 suffice for
  pub nothing_loaded : start_verdict None 64 ≡ Err (refusal NoProgram 0)
  pub one_byte_short : start_verdict (Some (program_of one_output)) 63 ≡ Err (refusal MemoryShort 0)
  pub just_enough : start_verdict (Some (program_of one_output)) 64 ≡ Ok tt
  -- a node of the half sheet overwritten
  pub overwritten : finish_verdict (Some (program_of one_output)) (half_sheet_of (program_of one_output)) (slice_set begun 20 8) ≡ Err (refusal NotThisHalf 0)
  pub as_begun : finish_verdict (Some (program_of one_output)) (half_sheet_of (program_of one_output)) begun ≡ Ok tt
  -- 15 bytes of a sheet; its operand 7 changed into 8
  pub fifteen_bytes : open_verdict (take 15 (sheet_of (program_of one_output))) ≡ Err (refusal SheetHeader 0)
  pub other_operand : open_verdict (slice_set (sheet_of (program_of one_output)) 36 8) ≡ Err (refusal NotTheTranslation 0)
  pub as_written : open_verdict (sheet_of (program_of one_output)) ≡ Ok tt
  -- a ramp of 2147483647 and one more
  pub ramp_too_high : ramp_fits (pos 2147483647) (pos 1) 2 ≡ false
