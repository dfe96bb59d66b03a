-- What is written reads back: words with spaces between them are the words of the line, and they say what they were written for.
use Rattle.std.proofs.Common.{◌≡◌, ℕ, suc, ◌+◌, ◌/◌, ◌%◌, ◌^◌, ◌<◌, Bool, true, false, not, ◌&&◌, ltb, List, [], ◌∷◌, ◌++◌, map, length, get_or, ℤ, pos, negsuc, codes, decimal, sym, refl, ap, ◌∙◌, subst, arith, w32, SFits}
use Rattle.std.specs.List.{flat_map, AllByRecursion}
use Rattle.std.specs.Str.Parse.{starts_with_minus}
use Rattle.std.specs.Fmt.{signed_decimal}
use Rattle.std.proofs.lemmas.Fmt.{decimal_is_IsNumeral, decimal_by_steps, decimal_nonempty}
use Rattle.std.proofs.ByRecursion.{All-append}
use Rattle.std.proofs.lemmas.Bool.{ne_eqb, cond-true, cond-false, or_from, and_parts, ltb-true}
use Rattle.std.proofs.lemmas.Bool.Decides.{nat_tests}
use Rattle.vocabulary.specs.declared.item.Item.{Item}
use Rattle.vocabulary.specs.declared.item.Item.TheVariants.{Reading, Fault}
use Rattle.notation.specs.Hex.{hex_digit, hex_digits, hex_text}
use Rattle.notation.specs.Lines.{Spoken, nothing, trace_feed, ramp_feed, record_strip, text_strip, loads, opens, rewinds, runs, reports, ItemRange, InRange, item_word, words_of, spaced, line_text, IsItem, AreItems, Say, Stands}
use Rattle.notation.specs.Numbers.{Unsigned, Signed}
use Rattle.notation.specs.Words.{blank, solid, trimmed, front, rest, word, behind, Words}

-- each byte is above those of blanks and '#'
abbrev High : List ℕ → Type 0
High w = AllByRecursion (λ b. 35 < b) w

abbrev Proper : List ℕ → Type 0
Proper w = (0 < length w) × High w

high-blank : (b : ℕ) → 35 < b → blank b ≡ false
high-blank b h = or_from _ _ (ne_eqb b 32 (λ e. omega arith)) (or_from _ _ (ne_eqb b 9 (λ e. omega arith)) (ne_eqb b 13 (λ e. omega arith)))

high-solid : (b : ℕ) → 35 < b → solid b ≡ true
high-solid b h = ap not (or_from _ _ (high-blank b h) (ne_eqb b 35 (λ e. omega arith)))

-- it ends a word
abbrev Ends : List ℕ → Type 0
Ends [] = Unit {0}
Ends (b ∷ bs) = solid b ≡ false

front_none : (t : List ℕ) → Ends t → (front t ≡ []) × (rest t ≡ t)
front_none [] h = (refl, refl)
front_none (b ∷ bs) h = (cond-false _ _ _ h, cond-false _ _ _ h)

front_word : (w t : List ℕ) → High w → Ends t → (front (w ++ t) ≡ w) × (rest (w ++ t) ≡ t)
front_word [] t h k = front_none t k
front_word (b ∷ bs) t h k =
    let p = front_word bs t h.1 k in
    (cond-true _ _ _ (high-solid b h.0) ∙ ap (λ x. b ∷ x) p.0, cond-true _ _ _ (high-solid b h.0) ∙ p.1)

trim_word : (w t : List ℕ) → Proper w → trimmed (w ++ t) ≡ w ++ t
trim_word [] t h = absurd (let z = h.0 in omega arith)
trim_word (b ∷ bs) t h = cond-false _ _ _ (high-blank b h.1.0)

first_word : (w t : List ℕ) → Proper w → Ends t → (word (w ++ t) ≡ w) × (behind (w ++ t) ≡ t)
first_word w t h k =
    let p = front_word w t h.1 k in
    (ap front (trim_word w t h) ∙ p.0, ap rest (trim_word w t h) ∙ p.1)

joined_ends : (ws : List (List ℕ)) → Ends (flat_map (λ v. 32 ∷ v) ws)
joined_ends [] = tt
joined_ends (w ∷ ws) = refl

words-joined : (ws : List (List ℕ)) → AllByRecursion Proper ws → Words (flat_map (λ v. 32 ∷ v) ws) ws
words-joined [] h = refl
words-joined (w ∷ ws) h =
    let p = first_word w (flat_map (λ v. 32 ∷ v) ws) h.0 (joined_ends ws) in
    (p.0, h.0.0, subst (λ t. Words t ws) (sym p.1) (words-joined ws h.1))

words-spaced : (ws : List (List ℕ)) → AllByRecursion Proper ws → Words (spaced ws) ws
words-spaced [] h = refl
words-spaced (w ∷ ws) h =
    let p = first_word w (flat_map (λ v. 32 ∷ v) ws) h.0 (joined_ends ws) in
    (p.0, h.0.0, subst (λ t. Words t ws) (sym p.1) (words-joined ws h.1))

-- which words are written
high-decimal : (n : ℕ) → n < 2 ^ 64 → High (decimal n)
high-decimal n h = decimal_by_steps (λ m ds. High ds) (λ m k. (omega arith, tt)) (λ m ds k l. All-append (λ b. 35 < b) ds ((48 + m % 10) ∷ []) l (omega arith, tt)) n h

proper_decimal : (n : ℕ) → n < 2 ^ 64 → Proper (decimal n)
proper_decimal n h = (decimal_nonempty n h, high-decimal n h)

proper_signed : (z : ℤ) → SFits w32 z → Proper (signed_decimal z)
proper_signed (pos n) h = let k = h.sfits in proper_decimal n (omega arith)
proper_signed (negsuc n) h = let k = h.sfits in (omega arith, (omega arith, high-decimal (suc n) (omega arith)))

high_digit : (d : ℕ) → 35 < hex_digit d
high_digit d = grind (arith, nat_tests)

high_digits : (bs : List ℕ) → High (hex_digits bs)
high_digits [] = tt
high_digits (b ∷ bs) = (high_digit (b / 16), (high_digit (b % 16), high_digits bs))

proper_hex : (bs : List ℕ) → Proper (hex_text bs)
proper_hex [] = (omega arith, (omega arith, tt))
proper_hex (b ∷ bs) = (omega arith, high_digits (b ∷ bs))

proper_item : (x : Item) → ItemRange x → Proper (item_word x)
proper_item (Reading z) h = proper_signed z h
proper_item (Fault fault) h =
    let k = h.1 in
    (omega arith, (omega arith, (omega arith, (omega arith, (omega arith, (omega arith, (omega arith, high-decimal fault.code (omega arith))))))))

proper_items : (xs : List Item) → AllByRecursion ItemRange xs → AllByRecursion Proper (map item_word xs)
proper_items [] h = tt
proper_items (x ∷ xs) h = (proper_item x h.0, proper_items xs h.1)

-- a word that is known is tested
abbrev high : List ℕ → Bool
high [] = true
high (b ∷ bs) = ltb 35 b && high bs

high-tested : (w : List ℕ) → high w ≡ true → High w
high-tested [] e = tt
high-tested (b ∷ bs) e = let p = and_parts _ _ e in (ltb-true 35 b p.0, high-tested bs p.1)

known : (w : List ℕ) → (ltb 0 (length w) && high w) ≡ true → Proper w
known w e = let p = and_parts _ _ e in (ltb-true 0 (length w) p.0, high-tested w p.1)

proper_words : (s : Spoken) → InRange s → AllByRecursion Proper (words_of s)
proper_words nothing h = tt
proper_words (trace_feed items) h = (known (codes "feed") refl, (known (codes "trace") refl, proper_items items h))
proper_words (ramp_feed start step count) h =
    let k = h.2 in
    (known (codes "feed") refl, (known (codes "ramp") refl, (proper_signed start h.0, (proper_signed step h.1, (proper_decimal count (omega arith), tt)))))
proper_words (record_strip n) h = (known (codes "strip") refl, (known (codes "records") refl, (proper_decimal n h, tt)))
proper_words (text_strip n) h = (known (codes "strip") refl, (known (codes "text") refl, (proper_decimal n h, tt)))
proper_words (loads bytes) h = (known (codes "load") refl, (proper_hex bytes, tt))
proper_words (opens bytes) h = (known (codes "open") refl, (proper_hex bytes, tt))
proper_words rewinds h = (known (codes "rewind") refl, tt)
proper_words (runs fuel) h = (known (codes "run") refl, (proper_decimal fuel (omega arith), tt))
proper_words reports h = (known (codes "report") refl, tt)

-- what they say
-- it begins with a digit
abbrev Figure : List ℕ → Type 0
Figure ds = (47 < get_or ds 0 0) × (0 < length ds)

figure_append : (xs ys : List ℕ) → Figure xs → Figure (xs ++ ys)
figure_append [] ys h = absurd (let z = h.1 in omega arith)
figure_append (x ∷ xs) ys h = (h.0, omega arith)

figure_decimal : (n : ℕ) → n < 2 ^ 64 → Figure (decimal n)
figure_decimal n h = decimal_by_steps (λ m ds. Figure ds) (λ m k. (omega arith, omega arith)) (λ m ds k l. figure_append ds ((48 + m % 10) ∷ []) l) n h

plain_decimal : (n : ℕ) → n < 2 ^ 64 → starts_with_minus (decimal n) ≡ false
plain_decimal n h = let f = (figure_decimal n h).0 in ne_eqb (get_or (decimal n) 0 0) 45 (λ e. omega arith)

signed_written : (z : ℤ) → SFits w32 z → Signed (signed_decimal z) z
signed_written (pos n) h =
    let k = h.sfits in
    let plain = plain_decimal n (omega arith) in
    (n, subst (λ w. Unsigned w n) (sym (cond-false _ _ _ plain)) (decimal_is_IsNumeral n (omega arith)), sym (cond-false _ _ _ plain))
signed_written (negsuc n) h = let k = h.sfits in (suc n, decimal_is_IsNumeral (suc n) (omega arith), refl)

item_written : (x : Item) → ItemRange x → IsItem (item_word x) x
item_written (Reading z) h = signed_written z h
item_written (Fault fault) h = let k = h.1 in (decimal fault.code, refl, decimal_is_IsNumeral fault.code (omega arith))

items-written : (xs : List Item) → AllByRecursion ItemRange xs → AreItems (map item_word xs) xs
items-written [] h = tt
items-written (x ∷ xs) h = (item_written x h.0, items-written xs h.1)

say_written : (s : Spoken) → InRange s → Say (words_of s) s
say_written nothing h = refl
say_written (trace_feed items) h = (map item_word items, refl, items-written items h)
say_written (ramp_feed start step count) h =
    let k = h.2 in
    (signed_decimal start, signed_decimal step, decimal count, refl, signed_written start h.0, signed_written step h.1, decimal_is_IsNumeral count (omega arith))
say_written (record_strip n) h = (decimal n, refl, decimal_is_IsNumeral n h)
say_written (text_strip n) h = (decimal n, refl, decimal_is_IsNumeral n h)
say_written (loads bytes) h = refl
say_written (opens bytes) h = refl
say_written rewinds h = refl
say_written (runs fuel) h = (decimal fuel, refl, decimal_is_IsNumeral fuel (omega arith))
say_written reports h = refl

pub stands-written : (s : Spoken) → InRange s → Stands (line_text s) s
stands-written s h = (words_of s, words-spaced (words_of s) (proper_words s h), say_written s h)
