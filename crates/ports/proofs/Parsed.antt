-- Text is read back as it was written: the values in the lines of values are those values.
use Rattle.std.proofs.Common.{◌≡◌, ℕ, suc, ◌+◌, ◌-◌, ◌%◌, ◌^◌, ◌<◌, true, false, cond, eqb, List, [], ◌∷◌, ◌++◌, pos, negsuc, decimal, sym, refl, ap, ◌∙◌, append_assoc, append-nil, arith}
use lib.Signed.{mag}
use Rattle.std.specs.Str.Parse.{digits_value as numeral}
use Rattle.std.proofs.lemmas.Fmt.{decimal_is_IsNumeral, decimal_by_steps}
use Rattle.std.proofs.lemmas.Bool.{ne_eqb}
use Rattle.vocabulary.specs.declared.value.Plain.{Plain}
use Rattle.vocabulary.specs.declared.value.Plain.TheVariants.{Number, Truth}
use Rattle.ports.specs.Lines.{word_of, line_of, text_of, read_word, values_after, values_in}

-- a text that is just the lines of the values that it says
abbrev pub Whole : List ℕ → Type 0
Whole text = text_of (values_in text) ≡ text

-- what has begun, and not ended, at the end of a text
abbrev pub rest : List ℕ → List ℕ → List ℕ
rest begun [] = begun
rest begun (b ∷ bs) = cond (eqb b 10) (rest [] bs) (rest (begun ++ (b ∷ [])) bs)

rest_append : (begun xs ys : List ℕ) → rest begun (xs ++ ys) ≡ rest (rest begun xs) ys
rest_append begun [] ys = refl
rest_append begun (x ∷ xs) ys =
    elim (eqb x 10) as (λ b. cond b (rest [] (xs ++ ys)) (rest (begun ++ (x ∷ [])) (xs ++ ys)) ≡ rest (cond b (rest [] xs) (rest (begun ++ (x ∷ [])) xs)) ys)
    [ true ↦ rest_append [] xs ys | false ↦ rest_append (begun ++ (x ∷ [])) xs ys ]

values_append : (begun xs ys : List ℕ) → values_after begun (xs ++ ys) ≡ values_after begun xs ++ values_after (rest begun xs) ys
values_append begun [] ys = refl
values_append begun (x ∷ xs) ys =
    elim (eqb x 10) as (λ b. cond b (read_word begun ∷ values_after [] (xs ++ ys)) (values_after (begun ++ (x ∷ [])) (xs ++ ys)) ≡ cond b (read_word begun ∷ values_after [] xs) (values_after (begun ++ (x ∷ [])) xs) ++ values_after (cond b (rest [] xs) (rest (begun ++ (x ∷ [])) xs)) ys)
    [ true ↦ ap (λ vs. read_word begun ∷ vs) (values_append [] xs ys) | false ↦ values_append (begun ++ (x ∷ [])) xs ys ]

-- no byte ends a line
abbrev Unbroken : List ℕ → Type 0
Unbroken [] = Unit {0}
Unbroken (b ∷ bs) = (10 < b) × Unbroken bs

unbroken_append : (xs ys : List ℕ) → Unbroken xs → Unbroken ys → Unbroken (xs ++ ys)
unbroken_append [] ys h k = k
unbroken_append (x ∷ xs) ys h k = (h.0, unbroken_append xs ys h.1 k)

not_end : (b : ℕ) → 10 < b → eqb b 10 ≡ false
not_end b h = ne_eqb b 10 (λ e. omega arith)

values-line : (begun l : List ℕ) → Unbroken l → values_after begun (l ++ (10 ∷ [])) ≡ read_word (begun ++ l) ∷ []
values-line begun [] h = ap (λ a. read_word a ∷ []) (sym (append-nil begun))
values-line begun (b ∷ bs) h =
    ap (λ t. cond t (read_word begun ∷ values_after [] (bs ++ (10 ∷ []))) (values_after (begun ++ (b ∷ [])) (bs ++ (10 ∷ [])))) (not_end b h.0)
    ∙ values-line (begun ++ (b ∷ [])) bs h.1
    ∙ ap (λ a. read_word a ∷ []) (append_assoc begun (b ∷ []) bs)

unbroken-decimal : (n : ℕ) → n < 2 ^ 64 → Unbroken (decimal n)
unbroken-decimal n h = decimal_by_steps (λ m ds. Unbroken ds) (λ m k. (omega arith, tt)) (λ m ds k l. unbroken_append ds ((48 + m % 10) ∷ []) l (omega arith, tt)) n h

-- it begins with a digit
abbrev Figure : List ℕ → Type 0
Figure [] = ⊥
Figure (b ∷ bs) = (47 < b) × (b < 58)

figure_append : (xs ys : List ℕ) → Figure xs → Figure (xs ++ ys)
figure_append [] ys h = absurd h
figure_append (x ∷ xs) ys h = h

figure_decimal : (n : ℕ) → n < 2 ^ 64 → Figure (decimal n)
figure_decimal n h = decimal_by_steps (λ m ds. Figure ds) (λ m k. (omega arith, omega arith)) (λ m ds k l. figure_append ds ((48 + m % 10) ∷ []) l) n h

read_figure : (ds : List ℕ) → Figure ds → read_word ds ≡ Number (pos (numeral 10 ds))
read_figure [] h = absurd h
read_figure (b ∷ bs) h =
    let n = Number (pos (numeral 10 (b ∷ bs))) in
    let m = Number (negsuc (numeral 10 bs - 1)) in
    ap (λ t. cond t (Truth true) (cond (eqb b 102) (Truth false) (cond (eqb b 45) m n))) (ne_eqb b 116 (λ e. omega arith))
    ∙ ap (λ t. cond t (Truth false) (cond (eqb b 45) m n)) (ne_eqb b 102 (λ e. omega arith))
    ∙ ap (λ t. cond t m n) (ne_eqb b 45 (λ e. omega arith))

-- a value that a strip is given: a number of it has 32 bits
abbrev pub Small : Plain → Type 0
Small (Number z) = mag z < 2 ^ 31
Small (Truth t) = Unit {0}

unbroken_word : (v : Plain) → Small v → Unbroken (word_of v)
unbroken_word (Number (pos n)) h = unbroken-decimal n (omega arith)
unbroken_word (Number (negsuc n)) h = (omega arith, unbroken-decimal (suc n) (omega arith))
unbroken_word (Truth true) h = (omega arith, (omega arith, (omega arith, (omega arith, tt))))
unbroken_word (Truth false) h = (omega arith, (omega arith, (omega arith, (omega arith, (omega arith, tt)))))

read_word_lem : (v : Plain) → Small v → read_word (word_of v) ≡ v
read_word_lem (Number (pos n)) h =
    read_figure (decimal n) (figure_decimal n (omega arith)) ∙ ap (λ k. Number (pos k)) (decimal_is_IsNumeral n (omega arith)).1
read_word_lem (Number (negsuc n)) h =
    let e : numeral 10 (decimal (suc n)) - 1 ≡ n = (let r = (decimal_is_IsNumeral (suc n) (omega arith)).1 in omega arith) in
    ap (λ k. Number (negsuc k)) e
read_word_lem (Truth true) h = refl
read_word_lem (Truth false) h = refl

values_word : (v : Plain) → Small v → values_in (line_of v) ≡ v ∷ []
values_word v h = values-line [] (word_of v) (unbroken_word v h) ∙ ap (λ w. w ∷ []) (read_word_lem v h)

pub line-whole : (v : Plain) → Small v → Whole (line_of v)
line-whole v h = ap text_of (values_word v h) ∙ append-nil (line_of v)

-- lines leave nothing begun
rest_text : (vs : List Plain) → rest [] (text_of vs) ≡ []
rest_text [] = refl
rest_text (v ∷ vs) =
    rest_append [] (line_of v) (text_of vs)
    ∙ ap (λ a. rest a (text_of vs)) (rest_append [] (word_of v) (10 ∷ []))
    ∙ rest_text vs

text_append : (us vs : List Plain) → text_of (us ++ vs) ≡ text_of us ++ text_of vs
text_append [] vs = refl
text_append (u ∷ us) vs = ap (λ t. line_of u ++ t) (text_append us vs) ∙ sym (append_assoc (line_of u) (text_of us) (text_of vs))

values-both : (xs ys : List ℕ) → Whole xs → values_in (xs ++ ys) ≡ values_in xs ++ values_in ys
values-both xs ys h = values_append [] xs ys ∙ ap (λ a. values_in xs ++ values_after a ys) (sym (ap (rest []) h) ∙ rest_text (values_in xs))

pub whole_append : (xs ys : List ℕ) → Whole xs → Whole ys → Whole (xs ++ ys)
whole_append xs ys h k =
    ap text_of (values-both xs ys h) ∙ text_append (values_in xs) (values_in ys) ∙ ap (λ t. t ++ text_of (values_in ys)) h ∙ ap (λ t. xs ++ t) k

pub values_more : (xs : List ℕ) (v : Plain) → Small v → Whole xs → values_in (xs ++ line_of v) ≡ values_in xs ++ (v ∷ [])
values_more xs v h k = values-both xs (line_of v) k ∙ ap (λ vs. values_in xs ++ vs) (values_word v h)
