-- The rule of numbers: signed 32 bits, and an end in place of a result that does not exist.
use Rattle.std.specs.Prelude.{◌^◌, Bool, false, cond, ℤ, pos, negsuc, ◌+ℤ◌, ◌-ℤ◌, ◌*ℤ◌, Some, None, Ok, Err, Option, Result, ◌==◌, int_div, int_lt, nat_lt}
use Rattle.std.specs.Int.Signed.{mag}
use Rattle.vocabulary.specs.declared.code.Operation.{Operation}
use Rattle.vocabulary.specs.declared.code.Operation.TheVariants.{Sum, Difference, Product, Quotient, Equal, Less}
use Rattle.vocabulary.specs.declared.end.End.{End}
use Rattle.vocabulary.specs.declared.end.End.TheVariants.{Overflow, NoNumber, ZeroDivisor}
use Rattle.vocabulary.specs.declared.value.Plain.{Plain}
use Rattle.vocabulary.specs.declared.value.Plain.TheVariants.{Number, Truth}
use Rattle.vocabulary.specs.declared.value.Value.{Value}
use Rattle.vocabulary.specs.declared.value.Value.TheVariants.{Plain as plain, Location}

-- what an operation gives: a plain value, or an end
abbrev pub Answer : Type 0
Answer = Result Plain End

-- a number that is there, or an overflow
abbrev pub narrowed : Option ℤ → Answer
narrowed (Some z) = Ok (Number z)
narrowed None = Err Overflow

-- a signed number of 32 bits: -2147483648 to 2147483647
abbrev pub within32 : ℤ → Bool
within32 z = nat_lt (mag z) (2 ^ 31)

-- a result, where it is within 32 bits
abbrev pub exact32 : ℤ → Answer
exact32 z = cond (within32 z) (Ok (Number z)) (Err Overflow)

abbrev is_zero : ℤ → Bool
is_zero (pos n) = n == 0
is_zero (negsuc n) = false

-- the quotient toward zero; a divisor of 0 comes before an overflow
abbrev pub quotient32 : ℤ → ℤ → Answer
quotient32 a b = cond (is_zero b) (Err ZeroDivisor) (exact32 (int_div a b))

-- whether two numbers are equal
abbrev pub same : ℤ → ℤ → Bool
same (pos a) (pos b) = a == b
same (pos a) (negsuc b) = false
same (negsuc a) (pos b) = false
same (negsuc a) (negsuc b) = a == b

-- an operation on two numbers
abbrev pub compute32 : Operation → ℤ → ℤ → Answer
compute32 Sum a b = exact32 (a +ℤ b)
compute32 Difference a b = exact32 (a -ℤ b)
compute32 Product a b = exact32 (a *ℤ b)
compute32 Quotient a b = quotient32 a b
compute32 Equal a b = Ok (Truth (same a b))
compute32 Less a b = Ok (Truth (int_lt a b))

abbrev with_left : Operation → ℤ → Value → Answer
with_left o a (plain (Number b)) = compute32 o a b
with_left o a (plain (Truth t)) = Err NoNumber
with_left o a (Location l) = Err NoNumber

-- an operation on two values: both have to be numbers
abbrev pub operate32 : Operation → Value → Value → Answer
operate32 o (plain (Number a)) y = with_left o a y
operate32 o (plain (Truth t)) y = Err NoNumber
operate32 o (Location l) y = Err NoNumber
