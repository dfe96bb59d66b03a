-- The number of each end, and the code that it reports.
use Rattle.std.specs.Prelude.{ℕ}
use Rattle.vocabulary.specs.declared.end.End.{End}
use Rattle.vocabulary.specs.declared.end.End.TheVariants.{Halt, NoLocation, NoTruth, NoNumber, Overflow, ZeroDivisor, Empty, Fault, Full}

-- the number of an end
abbrev pub number_of : End → ℕ
number_of Halt = 0
number_of NoLocation = 31
number_of NoTruth = 32
number_of NoNumber = 33
number_of Overflow = 34
number_of ZeroDivisor = 35
number_of Empty = 36
number_of (Fault f) = 37
number_of Full = 38

-- the code that an end reports: the fault's, and else 0
abbrev pub code_of : End → ℕ
code_of Halt = 0
code_of NoLocation = 0
code_of NoTruth = 0
code_of NoNumber = 0
code_of Overflow = 0
code_of ZeroDivisor = 0
code_of Empty = 0
code_of (Fault f) = f.code
code_of Full = 0
