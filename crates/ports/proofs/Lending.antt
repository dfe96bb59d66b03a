-- What one more value makes of a strip over lent memory: `free` is what lay behind the first `used` elements, after the write.
use Rattle.std.proofs.Common.{◌≡◌, ℕ, ◌+◌, ◌-◌, ◌≤◌, List, [], ◌∷◌, ◌++◌, length, take, drop, Ok, sym, ap, ◌∙◌, append_assoc, append-nil, arith, MutBor}
use Rattle.std.proofs.lemmas.List.{take_all, drop_all, take_at, drop_at, length-take-le, length-append, length-drop, take-append-drop, drop-drop}
use borrow.Rule.Slice.PartMut.{put_mid}
use Rattle.vocabulary.specs.declared.value.Plain.{Plain}
use Rattle.ports.specs.Kept.{Kept}
use Rattle.ports.specs.Lent.{Wrote}
use Rattle.ports.proofs.Keeping.{kept-grown}

all_free : {X : Type 0} (m : List X) (used : ℕ) → take (length m - used) (drop used m) ≡ drop used m
all_free m used = let d = length-drop used m in take_all (length m - used) (drop used m) (omega arith)

pub free_long : {X : Type 0} (m : List X) (used : ℕ) → length (take (length m - used) (drop used m)) ≡ length m - used
free_long m used = ap length (all_free m used) ∙ length-drop used m

module _ {X : Type 0} (price : Plain → ℕ) (written : List Plain → List X) (said : List X → List Plain) (m : List X) (used n : ℕ) (value : Plain) (free : List X)
    (room : used ≤ length m) (whole : written (said (take used m)) ≡ take used m)
    (wrote : Wrote price written said value (take (length m - used) (drop used m)) free (Ok n)) where
  abbrev later : List X
  later = put_mid used (length m - used) m free

  pub fits : n ≤ length m - used
  fits =
      let a = wrote.0 in
      let b = wrote.1 in
      let c = free_long m used in
      omega arith

  module _ (size : length free ≡ length m - used) where
    split : later ≡ (take used m ++ take n free) ++ drop n free
    split =
        let d = length-drop used m in
        ap (λ t. take used m ++ (free ++ t)) (drop_all (length m - used) (drop used m) (omega arith))
        ∙ ap (λ t. take used m ++ t) (append-nil free ∙ sym (take-append-drop n free))
        ∙ sym (append_assoc (take used m) (take n free) (drop n free))

    cut : length (take used m ++ take n free) ≡ used + n
    cut =
        let f = fits in
        let a = length-take-le used m room in
        let b = length-take-le n free (omega arith) in
        length-append (take used m) (take n free) ∙ (omega arith)

    front : take (used + n) later ≡ take used m ++ take n free
    front = ap (take (used + n)) split ∙ take_at (take used m ++ take n free) (drop n free) (used + n) cut

    back : drop (used + n) later ≡ drop (used + n) m
    back =
        ap (drop (used + n)) split ∙ drop_at (take used m ++ take n free) (drop n free) (used + n) cut
        ∙ wrote.3 ∙ ap (drop n) (all_free m used) ∙ drop-drop n used m

    pub long : length later ≡ length m
    long =
        let f = fits in
        let c = cut in
        let d = length-drop n free in
        ap length split ∙ length-append (take used m ++ take n free) (drop n free) ∙ (omega arith)

    pub more : said (take (used + n) later) ≡ said (take used m) ++ (value ∷ [])
    more = ap said front ∙ (wrote.2 (take used m) whole).0

    pub whole_still : written (said (take (used + n) later)) ≡ take (used + n) later
    whole_still = ap (λ xs. written (said xs)) front ∙ (wrote.2 (take used m) whole).1 ∙ sym front

    pub left : length later - (used + n) ≡ (length m - used) - price value
    left = let f = fits in let l = long in let b = wrote.1 in omega arith

    pub still : (earlier after : MutBor (List X)) → earlier.now ≡ m → after.now ≡ later → after.ghost_name ≡ earlier.ghost_name →
        Kept earlier after (written (said (take used earlier.now))) (written (said (take (used + n) after.now)))
    still earlier after e a same =
        let f = fits in
        let size : length after.now ≡ length earlier.now = ap length a ∙ long ∙ sym (ap length e) in
        let most : length earlier.now ≡ length m = ap length e in
        kept-grown earlier after used (used + n) _ _ same size (omega arith) (omega arith)
        (ap (λ xs. written (said (take used xs))) e ∙ whole ∙ sym (ap (take used) e))
        (ap (λ xs. written (said (take (used + n) xs))) a ∙ whole_still ∙ sym (ap (take (used + n)) a))
        (ap (drop (used + n)) a ∙ back ∙ sym (ap (drop (used + n)) e))
