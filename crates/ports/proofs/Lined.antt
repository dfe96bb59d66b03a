-- The line of a value, copied to the start of free memory, writes the value.
use Rattle.std.proofs.Common.{◌≡◌, ℕ, List, ◌++◌, length, take, drop, Ok, Err, Result, sym, ap, ◌∙◌, arith}
use Rattle.std.proofs.lemmas.List.{take_at, drop_at}
use Rattle.vocabulary.specs.declared.value.Plain.{Plain}
use Rattle.ports.specs.declared.strip.StripFull.{StripFull}
use Rattle.ports.specs.Lent.{Filled, Wrote}
use Rattle.ports.specs.Lines.{line_of, text_of, values_in, line_length}
use Rattle.ports.proofs.Parsed.{Small, line-whole, values_more, whole_append}

pub line-wrote : (v : Plain) (line before after : List ℕ) (r : Result ℕ StripFull) → line ≡ line_of v → Small v → Filled line before after r →
    Wrote line_length text_of values_in v before after r
line-wrote v line before after (Ok n) is small f =
    let size : line_length v ≡ length line = ap length (sym is) in
    let long = f.0 in
    let cut : length line ≡ n = sym f.1 in
    let front : take n after ≡ line_of v = ap (take n) f.2 ∙ take_at line (drop n before) n cut ∙ is in (
      omega arith,
      f.1 ∙ sym size,
      λ xs whole. (
        ap (λ l. values_in (xs ++ l)) front ∙ values_more xs v small whole,
        ap (λ l. text_of (values_in (xs ++ l))) front ∙ whole_append xs (line_of v) whole (line-whole v small) ∙ ap (λ l. xs ++ l) (sym front),
      ),
      ap (drop n) f.2 ∙ drop_at line (drop n before) n cut,
    )
line-wrote v line before after (Err full) is small f =
    let size : line_length v ≡ length line = ap length (sym is) in
    let short = f.0 in
    (omega arith, f.1)
