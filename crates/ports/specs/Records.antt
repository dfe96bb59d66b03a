-- The records of values.
use Rattle.std.specs.Prelude.{ℕ, zero, suc, Bool, true, false, not, List, map, ℤ, pos, negsuc, ◌==◌}
use Rattle.vocabulary.specs.declared.value.Plain.{Plain}
use Rattle.vocabulary.specs.declared.value.Plain.TheVariants.{Number, Truth}
use Rattle.ports.specs.declared.records.OutRecord.{OutRecord}

-- the record of a value: sort 0 is a number, sort 1 a truth, which is 0 or 1
abbrev pub record_of : Plain → OutRecord
record_of (Number z) = record { sort = 0; number = z }
record_of (Truth true) = record { sort = 1; number = pos 1 }
record_of (Truth false) = record { sort = 1; number = pos 0 }

-- the records of values
abbrev pub records_of : List Plain → List OutRecord
records_of values = map record_of values

abbrev is_true : ℤ → Bool
is_true (pos n) = not (n == 0)
is_true (negsuc n) = true

abbrev sorted : ℕ → ℤ → Plain
sorted zero z = Number z
sorted (suc k) z = Truth (is_true z)

-- the value that a record says
abbrev pub value_of : OutRecord → Plain
value_of r = sorted r.sort r.number

-- the values that records say
abbrev pub values_of : List OutRecord → List Plain
values_of rs = map value_of rs

-- a value takes one record
abbrev pub one : Plain → ℕ
one value = 1
