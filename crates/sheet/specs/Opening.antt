-- What is read of a sheet before its table and its code are looked at.
use Rattle.std.specs.Prelude.{ℕ, cond, List, length, Some, None, Option, nat_lt}
use Rattle.language.specs.Table.{field}
use Rattle.sheet.specs.declared.open.Header.{Header}
use Rattle.sheet.specs.declared.layout.Counts.{Counts}
use Rattle.sheet.specs.Sheets.{node_count, word_count, framed}

-- the eight numbers at the start of a sheet
abbrev pub header_of : List ℕ → Header
header_of sheet = record {
  version = field sheet 0;
  nodes = node_count sheet;
  words = word_count sheet;
  nodes_at = field sheet 6;
  code_at = field sheet 8;
  total = field sheet 10;
  spare = field sheet 12;
  last = field sheet 14;
}

-- the header, unless there are fewer than 16 bytes
abbrev pub header_in : List ℕ → Option Header
header_in sheet = cond (nat_lt (length sheet) 16) None (Some (header_of sheet))

-- the counts of a sheet that is framed
abbrev pub counts_in : List ℕ → Option Counts
counts_in sheet = cond (framed sheet) (Some (record { nodes = node_count sheet; words = word_count sheet })) None
