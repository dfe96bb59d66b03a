-- What is shown, a line each: with each item the text grows by its line, and so do what is written and the pieces that are gathered.
use Rattle.std.proofs.Common.{◌≡◌, ℕ, ◌+◌, ◌<◌, ◌≤◌, List, [], ◌∷◌, ◌++◌, length, get_or, take, Option, Some, None, Result, Ok, refl, sym, ap, ◌∙◌, subst, append-nil, take_all}
use Rattle.std.specs.Prelude.{IfSome, IsOk}
use Rattle.std.specs.List.{flat_map}
use Rattle.std.specs.Fmt.{DisplaysOnOk, HasWritten, option_append, with_newline}
use Rattle.std.specs.declared.fmt.Error.{Error}
use Rattle.std.specs.declared.fmt.Formatter.{Formatter}
use Rattle.std.proofs.Output.{has_written_append, then_text_assoc}
use Rattle.std.proofs.lemmas.List.{take_more, flat_map_more}
use Rattle.planned.specs.Printouts.{lines_shown}

module _ {W : Type 0} (took : W → List ℕ → W → Type 0) where
  -- g is f after writing the text in o; it says nothing if o is `None`
  abbrev pub Shows : Formatter W → Option (List ℕ) → Formatter W → Type 0
  Shows f o g = IfSome o (λ bs. HasWritten took f bs g)

  -- a write more
  shows-then : (f g h : Formatter W) (o p : Option (List ℕ)) (r : Result (Unit {0}) Error) → Shows f o g → DisplaysOnOk took g r p h → IsOk r → Shows f (option_append o p) h
  shows-then f g h None p r x y ok = tt
  shows-then f g h (Some a) None r x y ok = tt
  shows-then f g h (Some a) (Some b) r x y ok = has_written_append took f a g b h x (y x.plain ok)

lone-line : (o : Option (List ℕ)) → option_append o (Some []) ≡ option_append (Some []) o
lone-line None = refl
lone-line (Some a) = ap Some (append-nil a)

module _ {D : Type 0} (text : D → Option (List ℕ)) where
  lines_shown-push : (ds : List D) (d : D) → lines_shown text (ds ++ (d ∷ [])) ≡ option_append (lines_shown text ds) (with_newline (text d))
  lines_shown-push [] d = lone-line (with_newline (text d))
  lines_shown-push (x ∷ ds) d =
      ap (option_append (with_newline (text x))) (lines_shown-push ds d) ∙ sym (then_text_assoc (with_newline (text x)) (lines_shown text ds) (with_newline (text d)))

  lines_shown-more : (ds : List D) (i : ℕ) (x : D) → i < length ds → x ≡ get_or ds i x → lines_shown text (take (i + 1) ds) ≡ option_append (lines_shown text (take i ds)) (with_newline (text x))
  lines_shown-more ds i x h is =
      ap (lines_shown text) (take_more ds i x h) ∙ lines_shown-push (take i ds) (get_or ds i x) ∙ ap (λ (d : D). option_append (lines_shown text (take i ds)) (with_newline (text d))) (sym is)

  -- a line more is written
  pub shows-line : {W : Type 0} (took : W → List ℕ → W → Type 0) (f g h : Formatter W) (ds : List D) (i : ℕ) (x : D) → i < length ds → x ≡ get_or ds i x
      → Shows took f (lines_shown text (take i ds)) g → DisplaysOnOk took g (Ok tt) (with_newline (text x)) h → Shows took f (lines_shown text (take (i + 1) ds)) h
  shows-line took f g h ds i x within is sofar wrote =
      subst (λ (o : Option (List ℕ)). Shows took f o h) (sym (lines_shown-more ds i x within is)) (shows-then took f g h (lines_shown text (take i ds)) (with_newline (text x)) (Ok tt) sofar wrote refl)

  module _ {A : Type 0} (piece : A → List ℕ) where
    joined : (xs : List A) (i : ℕ) (a : A) → i < length xs → flat_map piece (take i xs) ++ piece (get_or xs i a) ≡ flat_map piece (take (i + 1) xs)
    joined xs i a h = flat_map_more piece [] (take i xs) (get_or xs i a) ∙ ap (flat_map piece) (sym (take_more xs i a h))

    -- what is shown of the first i, and of one more
    pub lines_shown-gathered : (ds after : List D) (xs : List A) (i : ℕ) (d : D) (a : A) (word : List ℕ) → i < length xs → after ≡ ds ++ (d ∷ [])
        → lines_shown text ds ≡ Some (flat_map piece (take i xs)) → text d ≡ Some word → piece (get_or xs i a) ≡ word ++ (10 ∷ [])
        → lines_shown text after ≡ Some (flat_map piece (take (i + 1) xs))
    lines_shown-gathered ds after xs i d a word h pushed sofar shown is =
        ap (lines_shown text) pushed ∙ lines_shown-push ds d ∙ ap (λ o. option_append o (with_newline (text d))) sofar
        ∙ ap (λ o. option_append (Some (flat_map piece (take i xs))) (with_newline o)) shown
        ∙ ap (λ (t : List ℕ). Some (flat_map piece (take i xs) ++ t)) (sym is) ∙ ap Some (joined xs i a h)

    -- what is shown of all
    pub lines_shown-all : (ds : List D) (xs : List A) (i : ℕ) → length xs ≤ i → lines_shown text ds ≡ Some (flat_map piece (take i xs)) → lines_shown text ds ≡ Some (flat_map piece xs)
    lines_shown-all ds xs i h sofar = sofar ∙ ap (λ (xs : List A). Some (flat_map piece xs)) (take_all i xs h)
