-- Columns hold: a level and the number of its node together never pass the root's number, so both have at most three digits.
use Rattle.std.proofs.Common.{◌≡◌, ℕ, zero, suc, ◌+◌, ◌-◌, ◌^◌, ◌<◌, ◌≤◌, true, List, [], ◌∷◌, ◌++◌, length, get_or, Ok, decimal, ◌∙◌, arith, lit≤, length-append}
use lib.ListN.{length-replicate}
use Rattle.std.specs.List.{flat_map, All}
use Rattle.std.proofs.lemmas.List.Elements.{All-append, All-cons}
use Rattle.std.specs.Fmt.{signed_decimal}
use Rattle.std.proofs.lemmas.Fmt.{length-decimal-le, length_signed_le}
use Rattle.std.proofs.lemmas.Bool.{and_parts, ltb-true}
use Rattle.vocabulary.specs.declared.code.Instruction.{Instruction}
use Rattle.vocabulary.specs.declared.code.Instruction.TheVariants.{Num, Truth, Read, Look, Deref, Op, JumpFalse, Jump, Call, Ret, IsLoc, Store, Put, Enter, Leave, Bind, New, Clos, Halt}
use Rattle.vocabulary.specs.declared.node.Node.{Node}
use Rattle.vocabulary.specs.Codes.{name_of, operand_of}
use Rattle.language.specs.declared.kind.ChildField.{ChildField}
use Rattle.language.specs.Fields.{children}
use Rattle.language.specs.Table.{at, lower, root_of}
use Rattle.language.specs.Verdicts.{shape_verdict}
use Rattle.language.proofs.Shape.{shaped}
use Rattle.language.proofs.Sizes.{some}
use Rattle.listing.specs.declared.rows.Row.{Row}
use Rattle.listing.specs.Columns.{Aligned, EvenCode}
use Rattle.listing.specs.Page.{spaces, left, right}
use Rattle.listing.specs.Rows.{row, walked, rows_of}

-- a row's number and level together are at most m
abbrev Within : ℕ → Row → Type 0
Within m r = r.node + r.level ≤ m

within-below : (m n : ℕ) (f : ℕ → List Row) → ((k : ℕ) → k < n → All (Within m) (f k)) → (held : List ChildField) → lower n held ≡ true → All (Within m) (flat_map (λ child. f child.number) held)
within-below m n f h [] l = λ k d u. absurd (omega arith)
within-below m n f h (x ∷ held) l =
    let p = and_parts _ _ l in
    All-append (Within m) (f x.number) (flat_map (λ child. f child.number) held) (h x.number (ltb-true _ _ p.0)) (within-below m n f h held p.1)

module _ (nodes : List Node) (below : (n : ℕ) → n < length nodes → lower n (children (at nodes n)) ≡ true) where
  walk-within : (m d : ℕ) (here : Row) → here.node < length nodes → here.node + here.level ≤ m → All (Within m) (walked d nodes here)
  unfolding walked
  walk-within m zero here l h = λ k d u. absurd (omega arith)
  walk-within m (suc d) here l h =
      All-cons (Within m) here _ h
      (within-below m here.node (λ k. walked d nodes (row k (here.level + 1))) (λ k u. walk-within m d (row k (here.level + 1)) (omega arith) (omega arith)) (children (at nodes here.node)) (below here.node l))

-- a text that is not wider than its column fills it
fills_right : (w : ℕ) (text : List ℕ) → length text ≤ w → length (right w text) ≡ w
fills_right w text l = length-append (spaces (w - length text)) text ∙ simp length-replicate (omega arith)

fills_left : (w : ℕ) (text : List ℕ) → length text ≤ w → length (left w text) ≡ w
fills_left w text l = length-append text (spaces (w - length text)) ∙ simp length-replicate (omega arith)

fills : (w k n : ℕ) → 0 < k → k ≤ w → n < 10 ^ k → n < 2 ^ 64 → length (right w (decimal n)) ≡ w
fills w k n s l h u = let d = length-decimal-le k n s h u in fills_right w (decimal n) (omega arith)

pub aligned : (nodes : List Node) → shape_verdict nodes ≡ Ok tt → length nodes ≤ 512 → (i : ℕ) → i < length (rows_of nodes) → Aligned (get_or (rows_of nodes) i (row 0 0))
aligned nodes accepted few i l =
    let shape = shaped nodes accepted in
    let s = some nodes shape.root in
    let r = get_or (rows_of nodes) i (row 0 0) in
    let b : r.node + r.level ≤ root_of nodes =
    walk-within nodes (λ n u. (shape.keep n u).below) (root_of nodes) (suc (root_of nodes)) (row (root_of nodes) 0) (omega arith) (omega arith) i (row 0 0) l in
    (fills 5 3 r.node (omega arith) (omega arith) (omega arith) (omega arith), fills 7 3 r.level (omega arith) (omega arith) (omega arith) (omega arith))

name_short : (i : Instruction) → length (name_of i) ≤ 5
name_short (Num z) = lit≤ tt
name_short (Truth t) = lit≤ tt
name_short Read = lit≤ tt
name_short (Look d) = lit≤ tt
name_short Deref = lit≤ tt
name_short (Op o) = lit≤ tt
name_short (JumpFalse p) = lit≤ tt
name_short (Jump p) = lit≤ tt
name_short (Call d) = lit≤ tt
name_short Ret = lit≤ tt
name_short IsLoc = lit≤ tt
name_short Store = lit≤ tt
name_short Put = lit≤ tt
name_short Enter = lit≤ tt
name_short Leave = lit≤ tt
name_short Bind = lit≤ tt
name_short New = lit≤ tt
name_short (Clos p) = lit≤ tt
name_short Halt = lit≤ tt

pub even_code : EvenCode
even_code position w p o n =
    let a = right 8 (decimal position) in
    let b = left 11 (name_of w.instruction) in
    let c = right 13 (signed_decimal (operand_of w.instruction)) in
    let d = right 7 (decimal w.node) in
    let name = name_short w.instruction in
    let operand = length_signed_le 10 (operand_of w.instruction) (omega arith) (omega arith) in
    let e1 : length a ≡ 8 = fills 8 8 position (omega arith) (omega arith) p (omega arith) in
    let e2 : length b ≡ 11 = fills_left 11 (name_of w.instruction) (omega arith) in
    let e3 : length c ≡ 13 = fills_right 13 (signed_decimal (operand_of w.instruction)) (omega arith) in
    let e4 : length d ≡ 7 = fills 7 5 w.node (omega arith) (omega arith) (omega arith) (omega arith) in
    let h1 = length-append (a ++ spaces 2 ++ b ++ c ++ d) (10 ∷ []) in
    let h2 = length-append (a ++ spaces 2 ++ b ++ c) d in
    let h3 = length-append (a ++ spaces 2 ++ b) c in
    let h4 = length-append (a ++ spaces 2) b in
    let h5 = length-append a (spaces 2) in
    omega arith
