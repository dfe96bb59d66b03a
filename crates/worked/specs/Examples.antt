-- What small programs do, from the bytes of their tables on.
use Rattle.std.specs.Prelude.{◌≡◌, ℕ, List, [], ◌∷◌, length, pos, negsuc, Ok}
use Rattle.vocabulary.specs.declared.code.Instruction.TheVariants.{Num, Deref, Put, Halt as HaltWord}
use Rattle.vocabulary.specs.declared.end.End.{End}
use Rattle.vocabulary.specs.declared.end.End.TheVariants.{Halt, NoLocation, Overflow, ZeroDivisor, Empty, Full}
use Rattle.vocabulary.specs.declared.item.Item.TheVariants.{Reading}
use Rattle.vocabulary.specs.declared.value.Plain.{Plain}
use Rattle.vocabulary.specs.declared.value.Plain.TheVariants.{Number}
use Rattle.vocabulary.specs.World.{World, world, Rules, rules}
use Rattle.language.specs.Meaning.{meaning}
use Rattle.language.specs.Meaning.Course.{finished}
use Rattle.language.specs.Translation.{word}
use Rattle.language.specs.Verdicts.{table_verdict}
use Rattle.machine.specs.Machine.{iterate, taken, start}
use Rattle.machine.specs.State.State.{halted}
use Rattle.ports.specs.Lines.{line_length}
use Rattle.sheet.specs.Faithful.{program_of}
use Rattle.sheet.specs.Layout.{sheet_of, half_of}
use Rattle.worked.specs.Programs.{number, tree_in, code_in, one_output, countdown, output_of, assign_to_number, output_read, assign_parameter}

-- the rules with a price of 1 for each value, and those of a text strip
abbrev pub on_records : Rules
on_records = rules (λ v. 1)

abbrev pub on_text : Rules
on_text = rules line_length

-- nothing in the feed, nothing on a strip with some space; and the world after, with values on the strip and space left
abbrev pub spaced : ℕ → World
spaced space = world [] [] [] space

abbrev pub holding : List Plain → ℕ → World
holding values space = world [] [] values space

-- the table is accepted; its meaning ends after just so many visits, and its code after just so many steps: with the same
-- end, at the same node, in the same world
pub record Ends (R : Rules) (table : List ℕ) (before : World) (visits steps : ℕ) (end : End) (node : ℕ) (after : World) : Type 0 where
  pub accepted : table_verdict table ≡ Ok tt
  pub means : meaning R (tree_in table) before visits ≡ finished end node after 0
  pub runs : iterate R (code_in table) steps (start before) ≡ halted end node after
  pub counts : taken R (code_in table) steps (start before) ≡ steps

pub record Examples : Type 0 where
  -- one output of 7: 2 visits, 4 steps, and a sheet of 64 bytes
  pub one_output_is : Ends on_records one_output (spaced 9) 2 4 Halt 1 (holding (Number (pos 7) ∷ []) 8)
  pub one_output-code : code_in one_output ≡ word (Num (pos 7)) 0 ∷ word Deref 0 ∷ word Put 1 ∷ word HaltWord 1 ∷ []
  pub one_output-size : length (sheet_of (program_of one_output)) ≡ 64
  pub one-output-sheet :
      sheet_of (program_of one_output)
      ≡ 1 ∷ 0 ∷ 2 ∷ 0 ∷ 4 ∷ 0 ∷ 16 ∷ 0 ∷ 32 ∷ 0 ∷ 64 ∷ 0 ∷ 0 ∷ 0 ∷ 0 ∷ 0
      ∷ 20 ∷ 0 ∷ 0 ∷ 0 ∷ 7 ∷ 0 ∷ 0 ∷ 0 ∷ 2 ∷ 0 ∷ 0 ∷ 0 ∷ 0 ∷ 0 ∷ 0 ∷ 0
      ∷ 1 ∷ 0 ∷ 0 ∷ 0 ∷ 7 ∷ 0 ∷ 0 ∷ 0 ∷ 5 ∷ 0 ∷ 0 ∷ 0 ∷ 0 ∷ 0 ∷ 0 ∷ 0
      ∷ 13 ∷ 0 ∷ 1 ∷ 0 ∷ 0 ∷ 0 ∷ 0 ∷ 0 ∷ 19 ∷ 0 ∷ 1 ∷ 0 ∷ 0 ∷ 0 ∷ 0 ∷ 0 ∷ []
  pub one-output-half :
      half_of (program_of one_output)
      ≡ 1 ∷ 0 ∷ 2 ∷ 0 ∷ 0 ∷ 0 ∷ 16 ∷ 0 ∷ 0 ∷ 0 ∷ 0 ∷ 0 ∷ 0 ∷ 0 ∷ 0 ∷ 0
      ∷ 20 ∷ 0 ∷ 0 ∷ 0 ∷ 7 ∷ 0 ∷ 0 ∷ 0 ∷ 2 ∷ 0 ∷ 0 ∷ 0 ∷ 0 ∷ 0 ∷ 0 ∷ 0 ∷ []
  -- a countdown from 2 over 15 nodes: 26 instructions, 31 visits, and 53 steps, so that fuel 52 is too little
  pub count_down : Ends on_records countdown (spaced 9) 31 53 Halt 14 (holding (Number (pos 2) ∷ Number (pos 1) ∷ []) 7)
  pub count_down_code : length (code_in countdown) ≡ 26
  -- -7 / 2 is -3; -2147483648 / -1 is beyond 32 bits; 1 / 0 has no quotient; 2147483647 + 1 is beyond 32 bits
  pub toward_zero : Ends on_records (output_of 4 (number 65529 65535) (number 2 0)) (spaced 9) 4 8 Halt 3 (holding (Number (negsuc 2) ∷ []) 8)
  pub largest_quotient : Ends on_records (output_of 4 (number 0 32768) (number 65535 65535)) (spaced 9) 4 5 Overflow 2 (spaced 9)
  pub by_zero : Ends on_records (output_of 4 (number 1 0) (number 0 0)) (spaced 9) 4 5 ZeroDivisor 2 (spaced 9)
  pub largest_sum : Ends on_records (output_of 1 (number 65535 32767) (number 1 0)) (spaced 9) 4 5 Overflow 2 (spaced 9)
  -- assigning to a number ends at the assignment before its right side, so that the feed is untouched
  pub no_location : Ends on_records assign_to_number (world [] (Reading (pos 5) ∷ []) [] 9) 2 2 NoLocation 2 (world [] (Reading (pos 5) ∷ []) [] 9)
  -- a read on an empty feed
  pub empty_feed : Ends on_records output_read (spaced 9) 2 1 Empty 0 (spaced 9)
  -- 7 onto a text strip of 1 byte finds it full; 2 bytes suffice
  pub one_byte : Ends on_text one_output (spaced 1) 2 3 Full 1 (spaced 1)
  pub two_bytes : Ends on_text one_output (spaced 2) 2 4 Halt 1 (holding (Number (pos 7) ∷ []) 0)
  -- a procedure that assigns 5 to its parameter changes the caller's variable
  pub by_location : Ends on_records assign_parameter (spaced 9) 13 19 Halt 12 (holding (Number (pos 5) ∷ []) 8)
