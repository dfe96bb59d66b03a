-- What a session leaves, as lines of text.
use Rattle.std.specs.Prelude.{ℕ, Bool, true, cond, List, [], ◌∷◌, ◌++◌, length, vec_items, codes, decimal, ◌==◌}
use Rattle.std.proofs.Math.Utf8.{encode}
use Rattle.vocabulary.specs.declared.item.Item.{Item}
use Rattle.ports.specs.declared.records.OutRecord.{OutRecord}
use Rattle.ports.specs.Lines.{word_of}
use Rattle.ports.specs.Records.{value_of}
use Rattle.std.specs.List.{flat_map}
use Rattle.notation.specs.Hex.{hex_text}
use Rattle.notation.specs.Lines.{item_word}
use Rattle.planned.specs.declared.carry.Filled.{Filled}
use Rattle.planned.specs.declared.carry.Filled.TheVariants.{Records, Text}
use Rattle.planned.specs.declared.carry.Left.{Left}

-- an item behind a blank
abbrev pub item_behind : Item → List ℕ
item_behind i = 32 ∷ item_word i

-- each item behind a blank
abbrev pub items_text : List Item → List ℕ
items_text items = flat_map item_behind items

-- the values of records, each behind a blank
abbrev pub record_behind : OutRecord → List ℕ
record_behind r = 32 ∷ word_of (value_of r)

abbrev pub records_text : List OutRecord → List ℕ
records_text records = flat_map record_behind records

-- a byte of a line: a blank before the first, and nothing for the byte that ends the line
abbrev pub byte_text : Bool → ℕ → List ℕ
byte_text begins b = cond begins (32 ∷ []) [] ++ cond (b == 10) [] (encode b)

-- the lines of a text, each behind a blank; `begins` says that a line begins here
abbrev pub lines_text : Bool → List ℕ → List ℕ
lines_text begins [] = []
lines_text begins (b ∷ bs) = byte_text begins b ++ lines_text (b == 10) bs

-- a line of bytes in hex digits behind a word; the bare word where there are none
abbrev pub bytes_text : List ℕ → List ℕ → List ℕ
bytes_text word bytes = cond (length bytes == 0) (word ++ (10 ∷ [])) (word ++ (32 ∷ (hex_text bytes ++ (10 ∷ []))))

-- the values that a strip holds, each behind a blank
abbrev pub filled_text : Filled → List ℕ
filled_text (Records records) = records_text (vec_items records)
filled_text (Text bytes) = lines_text true (vec_items bytes)

-- the bytes of a text strip
abbrev pub memory_text : Filled → List ℕ
memory_text (Records records) = []
memory_text (Text bytes) = bytes_text (codes "text") (vec_items bytes)

-- the items left, the values held, the space, and the bytes of a text strip, a line each
abbrev pub left_text : Left → List ℕ
left_text left =
    codes "feed" ++ (items_text (vec_items left.items) ++ (10 ∷ (codes "held" ++ (filled_text left.filled
    ++ (10 ∷ (codes "space " ++ (decimal left.space ++ (10 ∷ memory_text left.filled))))))))
