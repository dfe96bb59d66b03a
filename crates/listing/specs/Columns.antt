-- Columns that hold: what stands in them is never wider than they are.
use Rattle.std.specs.Prelude.{◌≡◌, ℕ, ◌^◌, ◌<◌, length, decimal}
use Rattle.std.specs.Int.Signed.{mag}
use Rattle.vocabulary.specs.declared.code.Word.{Word}
use Rattle.vocabulary.specs.Codes.{operand_of}
use Rattle.listing.specs.declared.rows.Row.{Row}
use Rattle.listing.specs.Page.{right, code_line}

-- the form of a row begins under the heading's: number and level fill their columns
abbrev pub Aligned : Row → Type 0
Aligned r = (length (right 5 (decimal r.node)) ≡ 5) × (length (right 7 (decimal r.level)) ≡ 7)

-- all lines of code are equally long, at any position below a hundred million, any operand of 32 bits and any node of 16
abbrev pub EvenCode : Type 0
EvenCode = (position : ℕ) (w : Word) → position < 10 ^ 8 → mag (operand_of w.instruction) < 2 ^ 31 → w.node < 2 ^ 16 → length (code_line position w) ≡ 42
