-- Where a line is cut: so many blanks stand in front, and so many bytes are of the word behind them.
use Rattle.std.proofs.Common.{◌≡◌, ℕ, suc, ◌+◌, ◌<◌, true, false, cond, eqb, List, [], ◌∷◌, length, take, drop, sym, refl, ap, ◌∙◌, arith}
use Rattle.std.specs.List.{prefix_len}
use Rattle.std.proofs.lemmas.List.{nil_from_length}
use Rattle.std.proofs.lemmas.List.Folds.{length-prefix_len}
use Rattle.std.proofs.lemmas.Bool.{eqb-true, eqb-false}
use Rattle.notation.specs.Words.{blank, solid, trimmed, front, rest, word, behind}

pub cut_blanks : (line : List ℕ) → drop (prefix_len blank line) line ≡ trimmed line
cut_blanks [] = refl
cut_blanks (b ∷ bs) =
    let e : 1 + prefix_len blank bs ≡ suc (prefix_len blank bs) = omega arith in
    elim (blank b) as (λ t. drop (cond t (1 + prefix_len blank bs) 0) (b ∷ bs) ≡ cond t (trimmed bs) (b ∷ bs)) [ true ↦ rw e (cut_blanks bs) | false ↦ refl ]

pub cut_word : (line : List ℕ) → (take (prefix_len solid line) line ≡ front line) × (drop (prefix_len solid line) line ≡ rest line)
cut_word [] = (refl, refl)
cut_word (b ∷ bs) =
    let e : 1 + prefix_len solid bs ≡ suc (prefix_len solid bs) = omega arith in
    let p = cut_word bs in
    elim (solid b) as (λ t. (take (cond t (1 + prefix_len solid bs) 0) (b ∷ bs) ≡ cond t (b ∷ front bs) []) × (drop (cond t (1 + prefix_len solid bs) 0) (b ∷ bs) ≡ cond t (rest bs) (b ∷ bs))) [ true ↦ rw e (ap (λ t. b ∷ t) p.0, p.1) | false ↦ (refl, refl) ]

-- the cuts where the bytes that pass were counted
pub cut : (line text : List ℕ) (blanks solids : ℕ) → blanks ≡ length (take (prefix_len blank line) line) → text ≡ drop blanks line → solids ≡ length (take (prefix_len solid text) text) → (take solids text ≡ word line) × (drop solids text ≡ behind line)
cut line text blanks solids e f g =
    let t : text ≡ trimmed line = f ∙ ap (λ n. drop n line) (e ∙ length-prefix_len blank line) ∙ cut_blanks line in
    let n = g ∙ length-prefix_len solid text in
    (ap (λ k. take k text) n ∙ (cut_word text).0 ∙ ap front t, ap (λ k. drop k text) n ∙ (cut_word text).1 ∙ ap rest t)

-- a word that was tested for being empty
pub word_none : (first word : List ℕ) → first ≡ word → true ≡ eqb (length first) 0 → word ≡ []
word_none first word e t = sym e ∙ nil_from_length first (eqb-true (length first) 0 (sym t))

pub word_some : (first word : List ℕ) → first ≡ word → false ≡ eqb (length first) 0 → 0 < length word
word_some first word e t = let n = eqb-false (length first) 0 (sym t) in let l : length first ≡ length word = ap length e in omega arith
