-- The machine: a step, many steps, and how many of them are carried out.
use Rattle.std.specs.Prelude.{ℕ, zero, suc, ◌+◌, List, [], Some, None, Option}
use Rattle.vocabulary.specs.declared.code.Instruction.{Instruction}
use Rattle.vocabulary.specs.declared.code.Instruction.TheVariants.{Num, Truth as TruthWord, Read, Look, Deref, Op, JumpFalse, Jump, Call, Ret, IsLoc, Store, Put, Enter, Leave, Bind, New, Clos, Halt as HaltWord}
use Rattle.vocabulary.specs.declared.code.Word.{Word}
use Rattle.vocabulary.specs.declared.end.End.TheVariants.{Halt}
use Rattle.vocabulary.specs.declared.value.Plain.TheVariants.{Number, Truth}
use Rattle.vocabulary.specs.declared.value.Value.TheVariants.{Plain as plain}
use Rattle.vocabulary.specs.Tables.{found}
use Rattle.vocabulary.specs.World.{World, Rules}
use Rattle.machine.specs.declared.tables.Bound.TheVariants.{Body}
use Rattle.machine.specs.Instructions.{push, read, look, deref, operation, jump_false, goto, call, ret, is_loc, store, put, enter, leave, bind, new, bind_as}
use Rattle.machine.specs.State.{Config, config, Core, core, Ports, Moved, State, ahead, sides, fed_in, spent_in, noted}
use Rattle.machine.specs.State.Moved.{moved}
use Rattle.machine.specs.State.State.{running, halted, broken}
use Rattle.machine.specs.State.Turn.{goes, ends}

-- a step counts while the machine runs, the ending step included
abbrev pub counted : State → ℕ
counted (running c) = 1
counted (halted e n w) = 0
counted broken = 0

module _ (R : Rules) where
  -- one instruction
  abbrev pub perform : Instruction → Core → Ports → Moved
  perform (Num z) k o = moved (push R.limit (plain (Number z)) k) o
  perform (TruthWord t) k o = moved (push R.limit (plain (Truth t)) k) o
  perform Read k o = fed_in (read R.limit o.feed k) o
  perform (Look d) k o = moved (look R.limit (found k.environment d) k) o
  perform Deref k o = moved (deref k.values k) o
  perform (Op j) k o = moved (operation R.operate j k.values k) o
  perform (JumpFalse p) k o = moved (jump_false p k.values k) o
  perform (Jump p) k o = moved (goes (goto p k)) o
  perform (Call d) k o = moved (call R.limit d k.values k) o
  perform Ret k o = moved (ret k.dump k) o
  perform IsLoc k o = moved (is_loc k.values k) o
  perform Store k o = moved (store k.values k) o
  perform Put k o = spent_in (put R.price k.values k o.strip o.space) o
  perform Enter k o = moved (enter R.limit k) o
  perform Leave k o = moved (leave k.dump k) o
  perform Bind k o = moved (bind R.limit k.values k) o
  perform New k o = moved (new R.limit k.values k) o
  perform (Clos p) k o = moved (bind_as R.limit (Body p) k) o
  perform HaltWord k o = moved (ends Halt k.cells) o

  -- one instruction of a node, at a configuration
  abbrev pub exec : Instruction → ℕ → Config → State
  exec i nd c = noted nd (perform i (ahead c) (sides c))

  -- the word at the position; there always is one where the code is a translation
  abbrev pub obey : Option Word → Config → State
  obey None c = broken
  obey (Some x) c = exec x.instruction x.node c

  -- one step: an ended machine stays as it is
  abbrev pub step : List Word → State → State
  step prog (running c) = obey (found prog c.position) c
  step prog (halted e n w) = halted e n w
  step prog broken = broken

  -- n steps
  abbrev pub iterate : List Word → ℕ → State → State
  iterate prog zero s = s
  iterate prog (suc n) s = iterate prog n (step prog s)

  -- how many of n steps are carried out
  unfoldable pub taken : List Word → ℕ → State → ℕ
  taken prog zero s = 0
  taken prog (suc n) s = counted s + taken prog n (step prog s)

-- a take begins at position 0 with nothing on any table
abbrev pub start : World → State
start w = running (config 0 [] [] 0 [] w)

abbrev pub blank : Core
blank = core 0 [] [] 0 [] []
