-- A strip that grew from `used` to `filled` places, and left the places beyond those alone, keeps its memory.
use Rattle.std.proofs.Common.{◌≡◌, ℕ, ◌≤◌, List, ◌++◌, length, take, drop, sym, ap, ◌∙◌, arith, MutBor}
use Rattle.std.proofs.lemmas.List.{length-take-le, take-append-drop}
use Rattle.ports.specs.Kept.{Kept}

module _ {X : Type 0} (earlier later : MutBor (List X)) (used filled : ℕ) (before after : List X)
    (here : later.ghost_name ≡ earlier.ghost_name) (size : length later.now ≡ length earlier.now)
    (up : used ≤ filled) (room : filled ≤ length earlier.now)
    (was : before ≡ take used earlier.now) (is : after ≡ take filled later.now) (beyond : drop filled later.now ≡ drop filled earlier.now) where
  pub kept-grown : Kept earlier later before after
  kept-grown =
      let m : length before ≡ used = ap length was ∙ length-take-le used earlier.now (omega arith) in
      let n : length after ≡ filled = ap length is ∙ length-take-le filled later.now (omega arith) in
      record {
        same = here;
        grown = omega arith;
        within = omega arith;
        memory = sym (take-append-drop filled later.now) ∙ ap (λ xs. take filled later.now ++ xs) beyond ∙ ap (λ xs. xs ++ drop filled earlier.now) (sym is) ∙ ap (λ k. after ++ drop k earlier.now) (sym n);
      }
