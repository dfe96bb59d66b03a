-- A start and then a finish, in a memory with room: the sheet stands at the front of the memory.
use Rattle.std.proofs.Common.{◌≡◌, ℕ, ◌*◌, ◌≤◌, Bool, true, false, leb, List, ◌++◌, length, take, drop, Some, Ok, Err, Result, sym, refl, ap, ◌∙◌, arith, length-append, length-drop, drop-drop, take_at, drop_at}
use Rattle.std.proofs.lemmas.Slice.Eq.{bytes_eq-Decides}
use Rattle.std.proofs.lemmas.Bool.{eq-eqb, le-leb, leb-true}
use Rattle.vocabulary.specs.declared.refusal.Cause.TheVariants.{MemoryShort}
use Rattle.vocabulary.specs.declared.refusal.Refusal.{Refusal}
use Rattle.vocabulary.specs.Refusals.{refusal}
use Rattle.sheet.specs.declared.half.HalfSheet.{HalfSheet}
use Rattle.sheet.specs.Layout.{Program, node_bytes, offset_of, size_of, half_of, sheet_of}
use Rattle.sheet.specs.Sheets.{is_half}
use Rattle.sheet.specs.Writing.{half_sheet_of, start_answer, start_memory, finish_answer, finish_memory, archive_answer, archive_memory}
use Rattle.sheet.proofs.Entries.{encoded-length}
use Rattle.sheet.proofs.Framing.{sheet-length}

pub record Written (p : Program) (memory : List ℕ) : Type 0 where
  pub answer : finish_answer (Some p) (half_sheet_of p) (start_memory (Some p) memory) ≡ Ok (size_of p)
  pub whole : finish_memory (Some p) (half_sheet_of p) (start_memory (Some p) memory) ≡ sheet_of p ++ drop (size_of p) memory
  pub sheet : take (size_of p) (finish_memory (Some p) (half_sheet_of p) (start_memory (Some p) memory)) ≡ sheet_of p

module _ (p : Program) (memory : List ℕ) (room : size_of p ≤ length memory) where
  begun : List ℕ
  begun = half_of p ++ drop (offset_of (length p.nodes)) memory

  half_length : length (half_of p) ≡ offset_of (length p.nodes)
  half_length = let a = encoded-length node_bytes (λ d. refl) p.nodes in omega arith

  begun-length : length begun ≡ length memory
  unfolding begun
  begun-length =
      let a = half_length in
      let b = length-append (half_of p) (drop (offset_of (length p.nodes)) memory) in
      let c = length-drop (offset_of (length p.nodes)) memory in
      omega arith

  begun_half : is_half p (half_sheet_of p) begun ≡ true
  unfolding begun
  begun_half =
      let k = offset_of (length p.nodes) in
      rw (eq-eqb (length p.nodes) (length p.nodes) refl, eq-eqb k k refl)
      ((bytes_eq-Decides (take k begun) (half_of p)).1 (take_at (half_of p) (drop k memory) k half_length))

  started : start_memory (Some p) memory ≡ begun
  unfolding begun
  started = rw (le-leb (size_of p) (length memory) room)

  behind : drop (size_of p) begun ≡ drop (size_of p) memory
  unfolding begun
  behind =
      let k = offset_of (length p.nodes) in
      let c = 8 * length p.code in
      sym (drop-drop c k begun) ∙ (ap (drop c) (drop_at (half_of p) (drop k memory) k half_length) ∙ drop-drop c k memory)

  pub written : Written p memory
  written =
      let r : leb (size_of p) (length begun) ≡ true = le-leb (size_of p) (length begun) (let e = begun-length in omega arith) in
      let h = begun_half in
      let a : finish_answer (Some p) (half_sheet_of p) begun ≡ Ok (size_of p) = rw (r, h) in
      let m : finish_memory (Some p) (half_sheet_of p) begun ≡ sheet_of p ++ drop (size_of p) begun = rw (r, h) in
      record {
        whole = ap (finish_memory (Some p) (half_sheet_of p)) started ∙ (m ∙ ap (λ (z : List ℕ). sheet_of p ++ z) behind);
        answer = ap (finish_answer (Some p) (half_sheet_of p)) started ∙ a;
        sheet = ap (λ (z : List ℕ). take (size_of p) (finish_memory (Some p) (half_sheet_of p) z)) started ∙ (ap (take (size_of p)) m ∙ take_at (sheet_of p) (drop (size_of p) begun) (size_of p) (sheet-length p));
      }

-- what a start that was accepted and then a finish answer, and leave
pub record Archived (p : Program) (memory m2 : List ℕ) (r : Result ℕ (Refusal × HalfSheet)) : Type 0 where
  pub answer : r ≡ Ok (size_of p)
  pub told : archive_answer (Some p) memory ≡ Ok (size_of p)
  pub left : m2 ≡ archive_memory (Some p) memory

pub archived : (p : Program) (memory m1 m2 : List ℕ) (half : HalfSheet) (r : Result ℕ (Refusal × HalfSheet)) →
    Ok half ≡ start_answer (Some p) memory → m1 ≡ start_memory (Some p) memory → r ≡ finish_answer (Some p) half m1 →
    m2 ≡ finish_memory (Some p) half m1 → Archived p memory m2 r
archived p memory m1 m2 half r a b c d = go (leb (size_of p) (length memory)) refl
  where
    go : (t : Bool) → leb (size_of p) (length memory) ≡ t → Archived p memory m2 r
    go false e =
        let q : Ok half ≡ Err (refusal MemoryShort 0) = rw e at a in
        let z : ◌≡◌ {A = ℕ} 0 1 = cc in absurd (omega arith)
    go true e =
        let w = written p memory (leb-true (size_of p) (length memory) e) in
        let q : Ok half ≡ Ok (half_sheet_of p) = rw e at a in
        let h : half ≡ half_sheet_of p = cc in
        record {
          answer = c ∙ (rw (h, b) w.answer);
          told = rw e;
          left = d ∙ (rw (h, b) (w.whole ∙ sym (rw e)));
        }
