-- A line says one thing only: `heard` reads it off the words.
use Rattle.std.proofs.Common.{◌≡◌, ℕ, ◌+◌, ◌-◌, ◌*◌, ◌/◌, ◌%◌, false, cond, eqb, ltb, List, [], ◌∷◌, map, length, get_or, drop, ℤ, pos, neg_ℤ, codes, sym, refl, ap, ◌∙◌, subst, arith}
use Rattle.std.specs.Str.Parse.{digits_value, starts_with_minus}
use Rattle.std.specs.Str.{bytes_eq}
use Rattle.std.proofs.lemmas.Bool.{ne_eqb, cond-false}
use Rattle.std.proofs.lemmas.Str.Parse.{digit_from_value}
use Rattle.std.proofs.lemmas.Bool.Decides.{nat_tests}
use Rattle.vocabulary.specs.declared.item.Item.{Item}
use Rattle.vocabulary.specs.declared.item.Item.TheVariants.{Reading, Fault}
use Rattle.notation.specs.Hex.{hex_digit, hex_digits, hex_text}
use Rattle.notation.specs.Lines.{Spoken, nothing, trace_feed, ramp_feed, record_strip, text_strip, loads, opens, rewinds, runs, reports, IsItem, AreItems, Say, Stands}
use Rattle.notation.specs.Numbers.{Signed, figures}
use Rattle.notation.specs.Words.{behind, Words}

abbrev un_digit : ℕ → ℕ
un_digit c = cond (ltb c 58) (c - 48) (c - 87)

abbrev pub unhex : List ℕ → List ℕ
unhex [] = []
unhex (a ∷ []) = []
unhex (a ∷ b ∷ cs) = (un_digit a * 16 + un_digit b) ∷ unhex cs

un_digit_lem : (d : ℕ) → un_digit (hex_digit d) ≡ d
un_digit_lem d = grind (arith, nat_tests)

unhex_digits : (bs : List ℕ) → unhex (hex_digits bs) ≡ bs
unhex_digits [] = refl
unhex_digits (b ∷ bs) =
    let high = un_digit_lem (b / 16) in
    let low = un_digit_lem (b % 16) in
    let e : un_digit (hex_digit (b / 16)) * 16 + un_digit (hex_digit (b % 16)) ≡ b = omega arith in
    ap (λ x. x ∷ unhex (hex_digits bs)) e ∙ ap (λ t. b ∷ t) (unhex_digits bs)

unhex-text : (bs : List ℕ) → unhex (hex_text bs) ≡ bs
unhex-text [] = refl
unhex-text (b ∷ bs) = unhex_digits (b ∷ bs)

abbrev pub signed_in : List ℕ → ℤ
signed_in w = cond (starts_with_minus w) (neg_ℤ (pos (digits_value 10 (figures w)))) (pos (digits_value 10 (figures w)))

signed_in_lem : (w : List ℕ) (z : ℤ) → Signed w z → signed_in w ≡ z
signed_in_lem w z s = ap (λ n. cond (starts_with_minus w) (neg_ℤ (pos n)) (pos n)) s.1.1 ∙ sym s.2

-- no number begins with `f`
pub not_fault : (w : List ℕ) (z : ℤ) → Signed w z → eqb (get_or w 0 0) 102 ≡ false
not_fault [] z s = refl
not_fault (b ∷ bs) z s = ne_eqb b 102 (λ e. let p : Signed (102 ∷ bs) z = subst (λ x. Signed (x ∷ bs) z) e s in let d = (digit_from_value 102 p.1.0.1.0).1 in omega arith)

abbrev pub item_in : List ℕ → Item
item_in w = cond (eqb (get_or w 0 0) 102) (Fault record { code = digits_value 10 (drop 6 w) }) (Reading (signed_in w))

item_in_lem : (w : List ℕ) (x : Item) → IsItem w x → item_in w ≡ x
item_in_lem w (Reading z) s = cond-false _ _ _ (not_fault w z s) ∙ ap Reading (signed_in_lem w z s)
item_in_lem w (Fault fault) s = ap item_in s.1 ∙ ap (λ n. Fault record { code = n }) s.2.1

items_in_lem : (ws : List (List ℕ)) (xs : List Item) → AreItems ws xs → map item_in ws ≡ xs
items_in_lem [] [] s = refl
items_in_lem [] (x ∷ xs) s = absurd s
items_in_lem (w ∷ ws) [] s = absurd s
items_in_lem (w ∷ ws) (x ∷ xs) s = ap (λ y. y ∷ map item_in ws) (item_in_lem w x s.0) ∙ ap (λ ys. x ∷ ys) (items_in_lem ws xs s.1)

abbrev pub at : List (List ℕ) → ℕ → List ℕ
at ws n = get_or ws n []

abbrev heard_feed : List (List ℕ) → Spoken
heard_feed ws = cond (bytes_eq (at ws 0) (codes "trace")) (trace_feed (map item_in (drop 1 ws))) (ramp_feed (signed_in (at ws 1)) (signed_in (at ws 2)) (digits_value 10 (at ws 3)))

abbrev heard_strip : List (List ℕ) → Spoken
heard_strip ws = cond (bytes_eq (at ws 0) (codes "records")) (record_strip (digits_value 10 (at ws 1))) (text_strip (digits_value 10 (at ws 1)))

abbrev heard_by : List ℕ → List (List ℕ) → Spoken
heard_by verb ws =
    cond (bytes_eq verb (codes "feed")) (heard_feed ws)
    (cond (bytes_eq verb (codes "strip")) (heard_strip ws)
    (cond (bytes_eq verb (codes "load")) (loads (unhex (at ws 0)))
    (cond (bytes_eq verb (codes "open")) (opens (unhex (at ws 0)))
    (cond (bytes_eq verb (codes "rewind")) rewinds
    (cond (bytes_eq verb (codes "run")) (runs (digits_value 10 (at ws 0))) reports)))))

abbrev pub heard : List (List ℕ) → Spoken
heard [] = nothing
heard (verb ∷ ws) = heard_by verb ws

pub heard_is : (ws : List (List ℕ)) (s : Spoken) → Say ws s → heard ws ≡ s
heard_is ws nothing y = ap heard y
heard_is ws (trace_feed items) y = ap heard y.1 ∙ ap trace_feed (items_in_lem y.0 items y.2)
heard_is ws (ramp_feed start step count) y =
    ap heard y.3
    ∙ ap (λ z. ramp_feed z (signed_in y.1) (digits_value 10 y.2)) (signed_in_lem y.0 start y.4)
    ∙ ap (λ z. ramp_feed start z (digits_value 10 y.2)) (signed_in_lem y.1 step y.5)
    ∙ ap (ramp_feed start step) y.6.1
heard_is ws (record_strip n) y = ap heard y.1 ∙ ap record_strip y.2.1
heard_is ws (text_strip n) y = ap heard y.1 ∙ ap text_strip y.2.1
heard_is ws (loads bytes) y = ap heard y ∙ ap loads (unhex-text bytes)
heard_is ws (opens bytes) y = ap heard y ∙ ap opens (unhex-text bytes)
heard_is ws rewinds y = ap heard y
heard_is ws (runs fuel) y = ap heard y.1 ∙ ap runs y.2.1
heard_is ws reports y = ap heard y

words-once : (line : List ℕ) (ws vs : List (List ℕ)) → Words line ws → Words line vs → ws ≡ vs
words-once line [] [] p q = refl
words-once line [] (v ∷ vs) p q = let n : length v ≡ 0 = ap length (sym q.0 ∙ p) in let some = q.1 in absurd (omega arith)
words-once line (w ∷ ws) [] p q = let n : length w ≡ 0 = ap length (sym p.0 ∙ q) in let some = p.1 in absurd (omega arith)
words-once line (w ∷ ws) (v ∷ vs) p q = ap (λ x. x ∷ ws) (sym p.0 ∙ q.0) ∙ ap (λ t. v ∷ t) (words-once (behind line) ws vs p.2 q.2)

pub stands-once : (line : List ℕ) (s t : Spoken) → Stands line s → Stands line t → s ≡ t
stands-once line s t p q = sym (heard_is p.0 s p.2) ∙ ap heard (words-once line p.0 q.0 p.1 q.1) ∙ heard_is q.0 t q.2
