-- Which error a line gets that cannot be read.
use Rattle.std.specs.Prelude.{◌≡◌, ℕ, zero, suc, ◌+◌, ◌⊎◌, List, [], ◌++◌, codes, ◌≢◌}
use Rattle.notation.specs.declared.error.ReadError.{ReadError}
use Rattle.notation.specs.declared.error.ReadError.TheVariants.{Memory, TooManyWords, UnknownFeed, UnknownLine, UnknownStrip, Word}
use Rattle.notation.specs.declared.error.Wanted.{Wanted}
use Rattle.notation.specs.declared.error.Wanted.TheVariants.{Table, Sheet, Fuel, RecordCount, ByteCount, Start, Step, Count, Reading, FaultCode}
use Rattle.notation.specs.declared.error.WordError.{WordError}
use Rattle.notation.specs.declared.error.WordError.TheVariants.{OutOfRange}
use Rattle.notation.specs.Hex.{HexError}
use Rattle.notation.specs.Numbers.{DigitsError, SignedError, Unsigned}
use Rattle.notation.specs.Words.{word, behind}

-- the error names what was wanted, and what `wrong` says is wrong with its word
abbrev pub Misses : Wanted → (WordError → Type 0) → ReadError → Type 0
Misses wanted wrong e = (w : WordError) × (e ≡ Word wanted w) × wrong w

-- a word stands where none may
abbrev pub TooMany : List ℕ → ReadError → Type 0
TooMany rest e = (e ≡ TooManyWords) × (word rest ≢ [])

-- the rest is to be one number of at most `most`
abbrev pub NumberError : Wanted → ℕ → List ℕ → ReadError → Type 0
NumberError wanted most rest e = TooMany (behind rest) e ⊎ Misses wanted (DigitsError (word rest) 0 most) e

-- the rest is to be one word that gives bytes, for which memory may be wanting
abbrev pub BytesError : Wanted → List ℕ → ReadError → Type 0
BytesError wanted rest e = (e ≡ Memory) ⊎ TooMany (behind rest) e ⊎ Misses wanted (HexError (word rest)) e

-- the rest is to be start, step and count of a ramp
abbrev pub RampError : List ℕ → ReadError → Type 0
RampError rest e = Misses Start (SignedError (word rest)) e ⊎ Misses Step (SignedError (word (behind rest))) e ⊎ NumberError Count 65535 (behind (behind rest)) e

-- the word is to be the item with this number: a fault whose code is 1 to 255, or else a reading
abbrev pub ItemError : List ℕ → ℕ → ReadError → Type 0
ItemError w number e =
    (((digits : List ℕ) → w ≢ codes "fault:" ++ digits) × Misses (Reading number) (SignedError w) e)
    ⊎ ((digits : List ℕ) × (w ≡ codes "fault:" ++ digits) × Misses (FaultCode number) (λ x. ((x ≡ OutOfRange) × Unsigned digits 0) ⊎ DigitsError digits 6 255 x) e)

-- what is left of a line behind so many words
abbrev pub behind_words : ℕ → List ℕ → List ℕ
behind_words zero line = line
behind_words (suc n) line = behind (behind_words n line)

-- the rest is to be items, for which memory may be wanting
abbrev pub TraceError : List ℕ → ReadError → Type 0
TraceError rest e = (e ≡ Memory) ⊎ ((n : ℕ) × ItemError (word (behind_words n rest)) (n + 1) e)

-- the rest stands behind `feed`
abbrev pub FeedError : List ℕ → ReadError → Type 0
FeedError rest e =
    ((word rest ≡ codes "trace") × TraceError (behind rest) e) ⊎ ((word rest ≡ codes "ramp") × RampError (behind rest) e)
    ⊎ ((e ≡ UnknownFeed) × (word rest ≢ codes "trace") × (word rest ≢ codes "ramp"))

-- the rest stands behind `strip`
abbrev pub StripError : List ℕ → ReadError → Type 0
StripError rest e =
    ((word rest ≡ codes "records") × NumberError RecordCount 18446744073709551615 (behind rest) e) ⊎ ((word rest ≡ codes "text") × NumberError ByteCount 18446744073709551615 (behind rest) e)
    ⊎ ((e ≡ UnknownStrip) × (word rest ≢ codes "records") × (word rest ≢ codes "text"))

-- which error a line gets, by its first word and what stands behind it
abbrev pub LineError : List ℕ → List ℕ → ReadError → Type 0
LineError verb rest e =
    ((verb ≡ codes "feed") × FeedError rest e) ⊎ ((verb ≡ codes "strip") × StripError rest e)
    ⊎ ((verb ≡ codes "load") × BytesError Table rest e) ⊎ ((verb ≡ codes "open") × BytesError Sheet rest e)
    ⊎ ((verb ≡ codes "rewind") × TooMany rest e) ⊎ ((verb ≡ codes "run") × NumberError Fuel 4294967295 rest e)
    ⊎ ((verb ≡ codes "report") × TooMany rest e)
    ⊎ ((e ≡ UnknownLine) × (verb ≢ codes "feed") × (verb ≢ codes "strip") × (verb ≢ codes "load") × (verb ≢ codes "open") × (verb ≢ codes "rewind") × (verb ≢ codes "run") × (verb ≢ codes "report"))
