-- The heading of a part, and the lines of the words that are left.
use Rattle.std.proofs.Common.{◌≡◌, ℕ, ◌+◌, ◌<◌, ◌≤◌, List, [], ◌∷◌, ◌++◌, length, get_or, drop, sym, ap, ◌∙◌, append_assoc, append-nil, add-one, drop-cons}
use Rattle.std.proofs.lemmas.List.{drop_all}
use Rattle.vocabulary.specs.declared.code.Word.{Word}
use Rattle.listing.specs.Page.{line, code_line, code_lines}

pub heading_is : (before number after columns : List ℕ) → before ++ (number ++ (after ++ (10 ∷ (columns ++ (10 ∷ []))))) ≡ line (before ++ number ++ after) ++ line columns
heading_is before number after columns = simp append_assoc

module _ (code : List Word) (i : ℕ) where
  pub one_line_more : (d : Word) (text total : List ℕ) {after : List ℕ} → i < length code → text ++ code_lines i (drop i code) ≡ total → after ≡ text ++ code_line i (get_or code i d) → after ++ code_lines (i + 1) (drop (i + 1) code) ≡ total
  one_line_more d text total l h e =
      let w = get_or code i d in
      ap (λ (t : List ℕ). t ++ code_lines (i + 1) (drop (i + 1) code)) e
      ∙ append_assoc text (code_line i w) (code_lines (i + 1) (drop (i + 1) code))
      ∙ ap (λ (k : ℕ). text ++ (code_line i w ++ code_lines (i + 1) (drop k code))) (add-one i)
      ∙ ap (λ (ws : List Word). text ++ code_lines i ws) (sym (drop-cons code i d l)) ∙ h

  pub all_lines : (text : List ℕ) {total : List ℕ} → length code ≤ i → text ++ code_lines i (drop i code) ≡ total → text ≡ total
  all_lines text l h = sym (ap (λ (ws : List Word). text ++ code_lines i ws) (drop_all i code l) ∙ append-nil text) ∙ h
