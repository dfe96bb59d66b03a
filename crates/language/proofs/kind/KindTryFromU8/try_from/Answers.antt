use Rattle.std.proofs.Common.{arith}
use Rattle.std.proofs.lemmas.Bool.Decides.{nat_tests}
use Rattle.language.specs.Fields.{fields_of}
use Rattle.language.proofs.kind.KindTryFromU8.try_from.Goals as goal

-- a number in no arm is that of no row
pub returns-in_default : goal.returns-in_default
unfolding fields_of
returns-in_default c = grind (arith, nat_tests)
