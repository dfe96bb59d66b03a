-- A text to which one piece is added after another, in the order of writing.
use Rattle.std.proofs.Common.{◌≡◌, ℕ, List, ◌++◌, ap, ◌∙◌, append_assoc}

pub then_more : (start piece more : List ℕ) {was after : List ℕ} → was ≡ start ++ piece → after ≡ was ++ more → after ≡ start ++ (piece ++ more)
then_more start piece more h e = e ∙ ap (λ (l : List ℕ). l ++ more) h ∙ append_assoc start piece more
