-- What the translation relies on: every node is of a known kind, and its children are lower and of their sorts.
-- A table of accepted shape keeps it.
use Rattle.std.specs.Prelude.{◌≡◌, ℕ, ◌<◌, ◌≤◌, ◌⊎◌, List, length}
use Rattle.vocabulary.specs.declared.node.Node.{Node}
use Rattle.language.specs.Reading.{FormE, FormC, FormD, form_e, form_c, form_d}
use Rattle.language.specs.Reading.FormE.{number_f, truth_f, read_f, name_f, operation_f, function_call_f, choice_f}
use Rattle.language.specs.Reading.FormC.{assign_f, output_f, when_f, while_f, block_f, sequence_f, procedure_call_f}
use Rattle.language.specs.Reading.FormD.{constant_f, variable_f, procedure_f, function_f, pair_f}
use Rattle.language.specs.Table.{at}

-- the sort of a node
abbrev pub IsE : List Node → ℕ → Type 0
IsE nodes n = (20 ≤ (at nodes n).kind) × ((at nodes n).kind ≤ 26)

abbrev pub IsC : List Node → ℕ → Type 0
IsC nodes n = (1 ≤ (at nodes n).kind) × ((at nodes n).kind ≤ 7)

abbrev pub IsD : List Node → ℕ → Type 0
IsD nodes n = (10 ≤ (at nodes n).kind) × ((at nodes n).kind ≤ 14)

-- a is lower than n, and of that sort
abbrev pub LowerE : List Node → ℕ → ℕ → Type 0
LowerE nodes n a = (a < n) × IsE nodes a

abbrev pub LowerC : List Node → ℕ → ℕ → Type 0
LowerC nodes n a = (a < n) × IsC nodes a

abbrev pub LowerD : List Node → ℕ → ℕ → Type 0
LowerD nodes n a = (a < n) × IsD nodes a

-- the children in a form are lower than n and of their sorts
abbrev pub SoundE : List Node → ℕ → FormE → Type 0
SoundE nodes n (number_f z) = Unit {0}
SoundE nodes n (truth_f t) = Unit {0}
SoundE nodes n read_f = Unit {0}
SoundE nodes n (name_f x) = Unit {0}
SoundE nodes n (operation_f o a b) = LowerE nodes n a × LowerE nodes n b
SoundE nodes n (function_call_f f a) = LowerE nodes n a
SoundE nodes n (choice_f a b c) = LowerE nodes n a × LowerE nodes n b × LowerE nodes n c

abbrev pub SoundC : List Node → ℕ → FormC → Type 0
SoundC nodes n (assign_f a b) = LowerE nodes n a × LowerE nodes n b
SoundC nodes n (output_f a) = LowerE nodes n a
SoundC nodes n (when_f a b c) = LowerE nodes n a × LowerC nodes n b × LowerC nodes n c
SoundC nodes n (while_f a b) = LowerE nodes n a × LowerC nodes n b
SoundC nodes n (block_f a b) = LowerD nodes n a × LowerC nodes n b
SoundC nodes n (sequence_f a b) = LowerC nodes n a × LowerC nodes n b
SoundC nodes n (procedure_call_f f a) = LowerE nodes n a

abbrev pub SoundD : List Node → ℕ → FormD → Type 0
SoundD nodes n (constant_f x a) = LowerE nodes n a
SoundD nodes n (variable_f x a) = LowerE nodes n a
SoundD nodes n (procedure_f x a y) = LowerC nodes n a
SoundD nodes n (function_f x a y) = LowerE nodes n a
SoundD nodes n (pair_f a b) = LowerD nodes n a × LowerD nodes n b

pub record Sound (nodes : List Node) : Type 0 where
  -- every node is of a known kind
  pub sorts : (n : ℕ) → n < length nodes → IsE nodes n ⊎ (IsC nodes n ⊎ IsD nodes n)
  -- its children are lower and of their sorts
  pub expressions : (n : ℕ) → n < length nodes → IsE nodes n → SoundE nodes n (form_e (at nodes n))
  pub commands : (n : ℕ) → n < length nodes → IsC nodes n → SoundC nodes n (form_c (at nodes n))
  pub declarations : (n : ℕ) → n < length nodes → IsD nodes n → SoundD nodes n (form_d (at nodes n))
  -- a truth is 0 or 1, an operator 1 to 6, and a parameter's name has one byte
  pub truths : (n : ℕ) → n < length nodes → (at nodes n).kind ≡ 21 → (at nodes n).tag ≤ 1
  pub operators : (n : ℕ) → n < length nodes → (at nodes n).kind ≡ 24 → (1 ≤ (at nodes n).tag) × ((at nodes n).tag ≤ 6)
  pub parameters : (n : ℕ) → n < length nodes → 12 ≤ (at nodes n).kind → (at nodes n).kind ≤ 13 → (at nodes n).c < 256
