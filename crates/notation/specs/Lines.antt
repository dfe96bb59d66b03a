-- What a line says: its text as it is written, and which lines say it.
use Rattle.std.specs.Prelude.{◌≡◌, ℕ, ◌^◌, ◌<◌, ◌≤◌, List, [], ◌∷◌, ◌++◌, map, ℤ, Vec, vec_items, codes, decimal, Option, Some, None, Result, MatchResult, FitsSigned, ◌≢◌}
use Rattle.std.specs.Global.{Global}
use Rattle.std.specs.Int.{w32}
use Rattle.std.specs.List.{flat_map, AllByRecursion}
use Rattle.std.specs.Fmt.{signed_decimal}
use Rattle.vocabulary.specs.declared.item.Item.{Item}
use Rattle.vocabulary.specs.declared.item.Item.TheVariants.{Reading, Fault}
use Rattle.ports.specs.Traces.{items_of}
use Rattle.notation.specs.declared.error.ReadError.{ReadError}
use Rattle.notation.specs.declared.error.ReadError.TheVariants.{Memory}
use Rattle.notation.specs.declared.plan.CallPlan.{CallPlan}
use Rattle.notation.specs.declared.plan.CallPlan.TheVariants.{Load, Open, Rewind, Run, Report}
use Rattle.notation.specs.declared.plan.FeedPlan.{FeedPlan}
use Rattle.notation.specs.declared.plan.FeedPlan.TheVariants.{Trace, Ramp}
use Rattle.notation.specs.declared.plan.Line.{Line}
use Rattle.notation.specs.declared.plan.Line.TheVariants.{Feed, Strip, Call}
use Rattle.notation.specs.declared.plan.StripPlan.{StripPlan}
use Rattle.notation.specs.declared.plan.StripPlan.TheVariants.{Records, Text}
use Rattle.notation.specs.Hex.{Bytes, hex_text}
use Rattle.notation.specs.Numbers.{Signed, Unsigned}
use Rattle.notation.specs.Words.{Words}

-- what a line says: nothing, a feed, a strip, or a call
pub data Spoken : Type 0 where
  nothing : Spoken
  trace_feed : List Item → Spoken
  ramp_feed : ℤ → ℤ → ℕ → Spoken
  record_strip : ℕ → Spoken
  text_strip : ℕ → Spoken
  loads : List ℕ → Spoken
  opens : List ℕ → Spoken
  rewinds : Spoken
  runs : ℕ → Spoken
  reports : Spoken

-- what a plan says; of a trace its items
abbrev pub spoken_feed : FeedPlan → Spoken
spoken_feed (Trace records) = trace_feed (items_of (vec_items records))
spoken_feed (Ramp start step count) = ramp_feed start step count

abbrev pub spoken_strip : StripPlan → Spoken
spoken_strip (Records n) = record_strip n
spoken_strip (Text n) = text_strip n

abbrev pub spoken_call : CallPlan → Spoken
spoken_call (Load table) = loads (vec_items table)
spoken_call (Open sheet) = opens (vec_items sheet)
spoken_call Rewind = rewinds
spoken_call (Run fuel) = runs fuel
spoken_call Report = reports

abbrev pub spoken : Line → Spoken
spoken (Feed plan) = spoken_feed plan
spoken (Strip plan) = spoken_strip plan
spoken (Call plan) = spoken_call plan

-- a line that plans nothing says nothing
abbrev pub said : Option Line → Spoken
said None = nothing
said (Some line) = spoken line

-- the range of an item: 32 bits, or a fault's code from 1 to 255
abbrev pub ItemRange : Item → Type 0
ItemRange (Reading z) = FitsSigned w32 z
ItemRange (Fault fault) = (0 < fault.code) × (fault.code < 256)

-- the ranges of what is said
abbrev pub InRange : Spoken → Type 0
InRange nothing = Unit {0}
InRange (trace_feed items) = AllByRecursion ItemRange items
InRange (ramp_feed start step count) = FitsSigned w32 start × FitsSigned w32 step × (count < 2 ^ 16)
InRange (record_strip n) = n < 2 ^ 64
InRange (text_strip n) = n < 2 ^ 64
InRange (loads bytes) = Bytes bytes
InRange (opens bytes) = Bytes bytes
InRange rewinds = Unit {0}
InRange (runs fuel) = fuel < 2 ^ 32
InRange reports = Unit {0}

-- the word of an item: a reading as a number, a fault as `fault:3`
abbrev pub item_word : Item → List ℕ
item_word (Reading z) = signed_decimal z
item_word (Fault fault) = codes "fault:" ++ decimal fault.code

-- the words that are written
abbrev pub words_of : Spoken → List (List ℕ)
words_of nothing = []
words_of (trace_feed items) = codes "feed" ∷ codes "trace" ∷ map item_word items
words_of (ramp_feed start step count) = codes "feed" ∷ codes "ramp" ∷ signed_decimal start ∷ signed_decimal step ∷ decimal count ∷ []
words_of (record_strip n) = codes "strip" ∷ codes "records" ∷ decimal n ∷ []
words_of (text_strip n) = codes "strip" ∷ codes "text" ∷ decimal n ∷ []
words_of (loads bytes) = codes "load" ∷ hex_text bytes ∷ []
words_of (opens bytes) = codes "open" ∷ hex_text bytes ∷ []
words_of rewinds = codes "rewind" ∷ []
words_of (runs fuel) = codes "run" ∷ decimal fuel ∷ []
words_of reports = codes "report" ∷ []

-- words with a space between them
abbrev pub spaced : List (List ℕ) → List ℕ
spaced [] = []
spaced (w ∷ ws) = w ++ flat_map (λ v. 32 ∷ v) ws

-- the text of a line
abbrev pub line_text : Spoken → List ℕ
line_text s = spaced (words_of s)

-- a word stands for an item
abbrev pub IsItem : List ℕ → Item → Type 0
IsItem word (Reading z) = Signed word z
IsItem word (Fault fault) = (digits : List ℕ) × (word ≡ codes "fault:" ++ digits) × Unsigned digits fault.code

-- words stand for items, one for one
abbrev pub AreItems : List (List ℕ) → List Item → Type 0
AreItems [] [] = Unit {0}
AreItems [] (x ∷ xs) = ⊥
AreItems (w ∷ ws) [] = ⊥
AreItems (w ∷ ws) (x ∷ xs) = IsItem w x × AreItems ws xs

-- words say this
abbrev pub Say : List (List ℕ) → Spoken → Type 0
Say words nothing = words ≡ []
Say words (trace_feed items) = (ws : List (List ℕ)) × (words ≡ codes "feed" ∷ codes "trace" ∷ ws) × AreItems ws items
Say words (ramp_feed start step count) =
    (a : List ℕ) × (b : List ℕ) × (c : List ℕ) × (words ≡ codes "feed" ∷ codes "ramp" ∷ a ∷ b ∷ c ∷ []) × Signed a start × Signed b step × Unsigned c count
Say words (record_strip n) = (w : List ℕ) × (words ≡ codes "strip" ∷ codes "records" ∷ w ∷ []) × Unsigned w n
Say words (text_strip n) = (w : List ℕ) × (words ≡ codes "strip" ∷ codes "text" ∷ w ∷ []) × Unsigned w n
Say words (loads bytes) = words ≡ codes "load" ∷ hex_text bytes ∷ []
Say words (opens bytes) = words ≡ codes "open" ∷ hex_text bytes ∷ []
Say words rewinds = words ≡ codes "rewind" ∷ []
Say words (runs fuel) = (w : List ℕ) × (words ≡ codes "run" ∷ w ∷ []) × Unsigned w fuel
Say words reports = words ≡ codes "report" ∷ []

-- the words of a line say this
abbrev pub Stands : List ℕ → Spoken → Type 0
Stands line s = (ws : List (List ℕ)) × Words line ws × Say ws s

-- what reading a line gives: what stands there; or an error, and then nothing within its ranges stands there, unless memory was wanting
abbrev pub Reads : List ℕ → Result (Option Line) ReadError → Type 0
Reads line r = MatchResult r (λ l. Stands line (said l)) (λ e. (e ≢ Memory) → (s : Spoken) → InRange s → Stands line s → ⊥)

-- the same of what stands behind some first words, where a plan says what `says` gives of it
abbrev pub ReadsBehind : {P : Type 0} → (P → Spoken) → (List (List ℕ) → List (List ℕ)) → List ℕ → Result P ReadError → Type 0
ReadsBehind says first rest r =
    MatchResult r (λ l. (ws : List (List ℕ)) × Words rest ws × Say (first ws) (says l))
    (λ e. (e ≢ Memory) → (s : Spoken) → InRange s → (ws : List (List ℕ)) → Words rest ws → Say (first ws) s → ⊥)

-- what reading the only word of the rest gives, as bytes: those whose text it is
abbrev pub ReadsBytes : List ℕ → Result (Vec ℕ Global) ReadError → Type 0
ReadsBytes rest r =
    MatchResult r (λ v. Words rest (hex_text (vec_items v) ∷ [])) (λ e. (e ≢ Memory) → (bytes : List ℕ) → Bytes bytes → Words rest (hex_text bytes ∷ []) → ⊥)

-- the same as a number of at most `most`
abbrev pub ReadsNumber : ℕ → List ℕ → Result ℕ ReadError → Type 0
ReadsNumber most rest r =
    MatchResult r (λ n. (n ≤ most) × ((w : List ℕ) × Words rest (w ∷ []) × Unsigned w n)) (λ _. (n : ℕ) → n ≤ most → (w : List ℕ) → Words rest (w ∷ []) → Unsigned w n → ⊥)
