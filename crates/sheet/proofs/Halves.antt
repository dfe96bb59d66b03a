-- The half sheet in a memory: what start leaves there, when it is recognised, and what finish makes of it.
use Rattle.std.proofs.Common.{◌≡◌, ℕ, ◌+◌, ◌-◌, ◌*◌, ◌≤◌, Bool, true, false, ◌&&◌, not, eqb, leb, List, ◌++◌, length, take, drop, Some, Ok, sym, refl, ap, ◌∙◌, append_assoc, arith, length-take-le, drop-drop, take_at, take-add, drop_at}
use borrow.Rule.Slice.PartMut.{put_mid}
use Rattle.std.specs.Str.{bytes_eq}
use Rattle.std.proofs.lemmas.Slice.Eq.{bytes_eq-Decides}
use Rattle.std.proofs.lemmas.Bool.{and_parts, eqb-true, leb-true}
use Rattle.language.proofs.Verdicts.{both_accept, unless_accepts}
use Rattle.vocabulary.specs.declared.code.Word.{Word}
use Rattle.vocabulary.specs.declared.refusal.Cause.TheVariants.{MemoryShort, NotThisHalf}
use Rattle.vocabulary.specs.Refusals.{unless}
use Rattle.vocabulary.specs.declared.node.Node.{Node}
use Rattle.sheet.specs.declared.half.HalfSheet.{HalfSheet}
use Rattle.sheet.specs.Layout.{Program, archive, table_bytes, code_bytes, header, offset_of, size_of, half_of, sheet_of}
use Rattle.sheet.specs.Sheets.{is_half, start_verdict, finish_verdict}
use Rattle.sheet.specs.Writing.{decided, half_sheet_of, start_memory, finish_memory}
use Rattle.sheet.proofs.Entries.{same_append, tail_is}

-- the parts from a to b, and from b on, of a list that is cut at a
drop-front : (a b : ℕ) (xs ys : List ℕ) → a ≤ b → b ≤ length xs → drop a (take b xs ++ ys) ≡ take (b - a) (drop a xs) ++ ys
drop-front a b xs ys h k =
    let e : take b xs ≡ take a xs ++ take (b - a) (drop a xs) = ap (λ (n : ℕ). take n xs) {x = b} {y = a + (b - a)} (omega arith) ∙ take-add a (b - a) xs in
    ap (λ (z : List ℕ). drop a (z ++ ys)) e ∙ (ap (drop a) (append_assoc (take a xs) (take (b - a) (drop a xs)) ys) ∙ drop_at (take a xs) (take (b - a) (drop a xs) ++ ys) a (length-take-le a xs (omega arith)))

-- the bytes of a half sheet are its header's and its nodes'
pub half_is : (p : Program) (half : HalfSheet) (mem : List ℕ) → offset_of (length p.nodes) ≤ length mem → is_half p half mem
    ≡ (eqb half.nodes (length p.nodes) && eqb half.code_at (offset_of (length p.nodes))
    && (bytes_eq (take 16 mem) (header (length p.nodes) 0 0 0) && bytes_eq (take (8 * length p.nodes) (drop 16 mem)) (table_bytes p.nodes)))
half_is p half mem l =
    let N = length p.nodes in
    let n : length (take 16 mem) ≡ 16 = length-take-le 16 mem (omega arith) in
    ap (λ (b : Bool). eqb half.nodes N && eqb half.code_at (offset_of N) && b)
    (ap (λ (z : List ℕ). bytes_eq z (half_of p)) (take-add 16 (8 * N) mem)
    ∙ same_append (take 16 mem) (header N 0 0 0) (take (8 * N) (drop 16 mem)) (table_bytes p.nodes) n)

-- where the half sheet is the one that start gives, its header and its nodes decide
pub begun_is : (p : Program) (half given : HalfSheet) (mem head whole : List ℕ) (r : Bool) → offset_of (length p.nodes) ≤ length mem → given ≡ half_sheet_of p
    → false ≡ not (eqb half.nodes given.nodes && eqb half.code_at given.code_at) → head ≡ header half.nodes 0 0 0 → whole ≡ head → r ≡ bytes_eq (take 16 mem) whole
    → is_half p half mem ≡ (r && bytes_eq (take (8 * length p.nodes) (drop 16 mem)) (table_bytes p.nodes))
begun_is p half given mem head whole r l g t d f q =
    let N = length p.nodes in
    let s : (eqb half.nodes N && eqb half.code_at (offset_of N)) ≡ true = rw g at (holds (eqb half.nodes given.nodes && eqb half.code_at given.code_at) t) in
    let k : half.nodes ≡ N = eqb-true half.nodes N (and_parts (eqb half.nodes N) (eqb half.code_at (offset_of N)) s).0 in
    let e : whole ≡ header N 0 0 0 = f ∙ (d ∙ ap (λ (n : ℕ). header n 0 0 0) k) in
    half_is p half mem l ∙ (ap (λ (b : Bool). b && (bytes_eq (take 16 mem) (header N 0 0 0) && bytes_eq (take (8 * N) (drop 16 mem)) (table_bytes p.nodes))) s
    ∙ ap (λ (b : Bool). b && bytes_eq (take (8 * N) (drop 16 mem)) (table_bytes p.nodes)) (ap (bytes_eq (take 16 mem)) (sym e) ∙ sym q))
  where
    holds : (b : Bool) → false ≡ not b → b ≡ true
    holds true e = refl
    holds false e = e

module _ (nodes : List Node) (mem : List ℕ) where
  -- what start leaves: the header first, then the nodes
  pub started : (head m1 ys : List ℕ) → length head ≡ 16 → 16 ≤ length mem → m1 ≡ head ++ drop 16 mem → ys ≡ table_bytes nodes ++ drop (8 * length nodes) (take (length m1 - 16) (drop 16 m1))
      → put_mid 16 (length m1 - 16) m1 ys ≡ (head ++ table_bytes nodes) ++ drop (offset_of (length nodes)) mem
  started head m1 ys l h e f =
      let a : take 16 m1 ≡ head = ap (take 16) e ∙ take_at head (drop 16 mem) 16 l in
      let d : drop (16 + 8 * length nodes) m1 ≡ drop (offset_of (length nodes)) mem =
      sym (drop-drop (8 * length nodes) 16 m1) ∙ (ap (λ (z : List ℕ). drop (8 * length nodes) z) (ap (drop 16) e ∙ drop_at head (drop 16 mem) 16 l) ∙ drop-drop (8 * length nodes) 16 mem) in
      tail_is m1 (table_bytes nodes) ys 16 (8 * length nodes) f ∙ (rw (a, d) (sym (append_assoc head (table_bytes nodes) (drop (offset_of (length nodes)) mem))))

-- the code behind the half, then the full header over the half's
pub completed : (mem cs head m2 ys : List ℕ) (a n : ℕ) → 16 ≤ a → a + n ≤ length mem → ys ≡ cs ++ drop n (take (length mem - a) (drop a mem))
    → m2 ≡ head ++ drop 16 (put_mid a (length mem - a) mem ys) → m2 ≡ head ++ (take (a - 16) (drop 16 mem) ++ (cs ++ drop (a + n) mem))
completed mem cs head m2 ys a n h k e f =
    f ∙ ap (λ (z : List ℕ). head ++ z) (ap (drop 16) (tail_is mem cs ys a n e) ∙ drop-front 16 a mem (cs ++ drop (a + n) mem) h (omega arith))

-- what a half sheet that is the program's says of the memory
pub record Half (p : Program) (half : HalfSheet) (mem : List ℕ) : Type 0 where
  pub nodes : half.nodes ≡ length p.nodes
  pub offset : half.code_at ≡ offset_of (length p.nodes)
  pub table : take (8 * length p.nodes) (drop 16 mem) ≡ table_bytes p.nodes

pub half_means : (p : Program) (half : HalfSheet) (mem : List ℕ) → offset_of (length p.nodes) ≤ length mem → is_half p half mem ≡ true → Half p half mem
half_means p half mem l e =
    let N = length p.nodes in
    let t = eqb half.nodes N in
    let u = eqb half.code_at (offset_of N) in
    let v = bytes_eq (take (offset_of N) mem) (half_of p) in
    let a = and_parts (t && u) v e in
    let b = and_parts t u a.0 in
    let w : take (offset_of N) mem ≡ half_of p = (bytes_eq-Decides (take (offset_of N) mem) (half_of p)).0 a.1 in
    let x : take 16 mem ++ take (8 * N) (drop 16 mem) ≡ half_of p = sym (take-add 16 (8 * N) mem) ∙ w in
    let n = length-take-le 16 mem (omega arith) in
    record {
      nodes = eqb-true half.nodes N b.0;
      offset = eqb-true half.code_at (offset_of N) b.1;
      table = sym (drop_at (take 16 mem) (take (8 * N) (drop 16 mem)) 16 n) ∙ (ap (drop 16) x ∙ drop_at (header N 0 0 0) (table_bytes p.nodes) 16 refl);
    }

-- what finish leaves
pub finished : (p : Program) (half : HalfSheet) (mem m2 : List ℕ) → Half p half mem
    → m2 ≡ header half.nodes (length p.code) half.code_at (half.code_at + 8 * length p.code)
    ++ (take (half.code_at - 16) (drop 16 mem) ++ (code_bytes p.code ++ drop (half.code_at + 8 * length p.code) mem))
    → m2 ≡ sheet_of p ++ drop (size_of p) mem
finished p half mem m2 h e =
    let N = length p.nodes in
    let M = length p.code in
    let k : half.code_at - 16 ≡ 8 * N = (let o = h.offset in omega arith) in
    let t : take (half.code_at - 16) (drop 16 mem) ≡ table_bytes p.nodes = ap (λ (n : ℕ). take n (drop 16 mem)) k ∙ h.table in
    let head = header N M (offset_of N) (size_of p) in
    let f : m2 ≡ head ++ (table_bytes p.nodes ++ (code_bytes p.code ++ drop (size_of p) mem)) = e ∙ (let a = h.nodes in let b = h.offset in cc) in
    f ∙ (ap (λ (z : List ℕ). head ++ z) (sym (append_assoc (table_bytes p.nodes) (code_bytes p.code) (drop (size_of p) mem)))
    ∙ sym (append_assoc head (table_bytes p.nodes ++ code_bytes p.code) (drop (size_of p) mem)))

-- what start leaves, by its parts
pub start_left : (p : Program) (nodes : List Node) (code : List Word) (half : HalfSheet) (mem head m1 ys : List ℕ) → archive nodes code ≡ p
    → start_verdict (Some p) (length mem) ≡ Ok tt → half ≡ half_sheet_of p → head ≡ header half.nodes 0 0 0 → m1 ≡ head ++ drop 16 mem
    → ys ≡ table_bytes nodes ++ drop (8 * length nodes) (take (length m1 - 16) (drop 16 m1)) → put_mid 16 (length m1 - 16) m1 ys ≡ start_memory (Some p) mem
start_left p nodes code half mem head m1 ys e v h d f g =
    let room : size_of p ≤ length mem = leb-true (size_of p) (length mem) (unless_accepts (leb (size_of p) (length mem)) MemoryShort 0 v) in
    let n : p.nodes ≡ nodes = ap (λ (x : Program). x.nodes) (sym e) in
    let k : half.nodes ≡ length nodes = ap (λ (x : HalfSheet). x.nodes) h ∙ ap length n in
    let m : start_memory (Some p) mem ≡ half_of p ++ drop (offset_of (length p.nodes)) mem =
    ap (λ r. decided r (half_of p ++ drop (offset_of (length p.nodes)) mem) (λ x. mem)) v in
    started nodes mem head m1 ys (ap length d) (omega arith) f g
    ∙ (ap (λ (z : List ℕ). (z ++ table_bytes nodes) ++ drop (offset_of (length nodes)) mem) (d ∙ ap (λ (x : ℕ). header x 0 0 0) k)
    ∙ (ap (λ (ns : List Node). (header (length ns) 0 0 0 ++ table_bytes ns) ++ drop (offset_of (length ns)) mem) (sym n) ∙ sym m))

-- what finish leaves, by its parts
pub finish_left : (p : Program) (nodes : List Node) (code : List Word) (half : HalfSheet) (mem m2 : List ℕ) → archive nodes code ≡ p
    → finish_verdict (Some p) half mem ≡ Ok tt
    → m2 ≡ header half.nodes (length code) half.code_at (half.code_at + 8 * length code)
    ++ (take (half.code_at - 16) (drop 16 mem) ++ (code_bytes code ++ drop (half.code_at + 8 * length code) mem))
    → m2 ≡ finish_memory (Some p) half mem
finish_left p nodes code half mem m2 e v h =
    let a = both_accept (unless (leb (size_of p) (length mem)) MemoryShort 0) (unless (is_half p half mem) NotThisHalf 0) v in
    let room : size_of p ≤ length mem = leb-true (size_of p) (length mem) (unless_accepts (leb (size_of p) (length mem)) MemoryShort 0 a.0) in
    let begun : is_half p half mem ≡ true = unless_accepts (is_half p half mem) NotThisHalf 0 a.1 in
    let w : code ≡ p.code = ap (λ (x : Program). x.code) e in
    let m : finish_memory (Some p) half mem ≡ sheet_of p ++ drop (size_of p) mem = ap (λ r. decided r (sheet_of p ++ drop (size_of p) mem) (λ x. mem)) v in
    let l : List Word → List ℕ = λ ws. header half.nodes (length ws) half.code_at (half.code_at + 8 * length ws)
    ++ (take (half.code_at - 16) (drop 16 mem) ++ (code_bytes ws ++ drop (half.code_at + 8 * length ws) mem)) in
    finished p half mem m2 (half_means p half mem (omega arith) begun) (h ∙ ap l w) ∙ sym m
