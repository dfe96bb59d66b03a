-- The refusals and their numbers.
use Rattle.std.specs.Prelude.{ℕ, Bool, true, false, Ok, Err, Result}
use Rattle.vocabulary.specs.declared.refusal.Cause.{Cause}
use Rattle.vocabulary.specs.declared.refusal.Cause.TheVariants.{NoProgram, TableLength, FieldRule, ChildNotLower, ChildSort, NotOneParent, RootNotCommand, NameNotVisible, NameRole, Fuel, TakeEnded, MemoryShort, NotThisHalf, SheetHeader, NotTheTranslation, RampRange}
use Rattle.vocabulary.specs.declared.refusal.Refusal.{Refusal}

-- the number of a cause
abbrev pub cause_number : Cause → ℕ
cause_number NoProgram = 1
cause_number TableLength = 2
cause_number FieldRule = 3
cause_number ChildNotLower = 4
cause_number ChildSort = 5
cause_number NotOneParent = 6
cause_number RootNotCommand = 7
cause_number NameNotVisible = 8
cause_number NameRole = 9
cause_number Fuel = 10
cause_number TakeEnded = 11
cause_number MemoryShort = 12
cause_number NotThisHalf = 13
cause_number SheetHeader = 14
cause_number NotTheTranslation = 15
cause_number RampRange = 16

-- a refusal at a node
abbrev pub refusal : Cause → ℕ → Refusal
refusal c n = record { cause = c; node = n }

-- what a check answers: accepted, or a refusal; two checks in a row answer the first refusal (`result_and` of the library)
abbrev pub Verdict : Type 0
Verdict = Result (Unit {0}) Refusal

-- accepted where a test is passed, and else refused
abbrev pub unless : Bool → Cause → ℕ → Verdict
unless true c n = Ok tt
unless false c n = Err (refusal c n)
