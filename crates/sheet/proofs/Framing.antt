-- The frame of a sheet: what the test of it tells, and that every sheet that is written passes it.
use Rattle.std.proofs.Common.{◌≡◌, ℕ, ◌*◌, ◌<◌, Bool, true, false, ◌&&◌, eqb, List, ◌++◌, length, take, drop, Err, sym, refl, ap, ◌∙◌, arith, length-append, drop-drop, take_at, drop_at}
use Rattle.std.specs.Result.{result_and}
use Rattle.std.proofs.lemmas.Bool.{and_parts, eq-eqb, eqb-true}
use Rattle.vocabulary.specs.declared.refusal.Cause.TheVariants.{SheetHeader}
use Rattle.vocabulary.specs.Refusals.{Verdict, refusal, unless}
use Rattle.language.specs.Table.{field}
use Rattle.sheet.specs.Layout.{Program, node_bytes, word_bytes, table_bytes, code_bytes, offset_of, total_of, size_of, half_of, sheet_of}
use Rattle.sheet.specs.Sheets.{node_count, word_count, framed, table_part, code_part}
use Rattle.sheet.specs.Faithful.{HalfRefused}
use Rattle.sheet.proofs.Entries.{encoded-length}
use Rattle.sheet.proofs.Fields.{field_of_two}

-- the fields of a sheet that is framed
pub record Frame (b : List ℕ) : Type 0 where
  pub version : field b 0 ≡ 1
  pub start : field b 6 ≡ 16
  pub offset : field b 8 ≡ offset_of (node_count b)
  pub total : field b 10 ≡ total_of (node_count b) (word_count b)
  pub spare : field b 12 ≡ 0
  pub last : field b 14 ≡ 0
  pub long : length b ≡ total_of (node_count b) (word_count b)

pub frame_of : (b : List ℕ) → framed b ≡ true → Frame b
frame_of b e =
    let n = node_count b in
    let t = total_of n (word_count b) in
    let v = eqb (field b 0) 1 in
    let s = eqb (field b 6) 16 in
    let o = eqb (field b 8) (offset_of n) in
    let w = eqb (field b 10) t in
    let x = eqb (field b 12) 0 in
    let y = eqb (field b 14) 0 in
    let e6 = and_parts (v && s && o && w && x && y) (eqb (length b) t) e in
    let e5 = and_parts (v && s && o && w && x) y e6.0 in
    let e4 = and_parts (v && s && o && w) x e5.0 in
    let e3 = and_parts (v && s && o) w e4.0 in
    let e2 = and_parts (v && s) o e3.0 in
    let e1 = and_parts v s e2.0 in
    record {
      version = eqb-true (field b 0) 1 e1.0;
      start = eqb-true (field b 6) 16 e1.1;
      offset = eqb-true (field b 8) (offset_of n) e2.1;
      total = eqb-true (field b 10) t e3.1;
      spare = eqb-true (field b 12) 0 e4.1;
      last = eqb-true (field b 14) 0 e5.1;
      long = eqb-true (length b) t e6.1;
    }

framed_by : (b : List ℕ) → Frame b → framed b ≡ true
framed_by b f =
    let n = node_count b in
    let t = total_of n (word_count b) in
    rw (
      eq-eqb (field b 0) 1 f.version,
      eq-eqb (field b 6) 16 f.start,
      eq-eqb (field b 8) (offset_of n) f.offset,
      eq-eqb (field b 10) t f.total,
      eq-eqb (field b 12) 0 f.spare,
      eq-eqb (field b 14) 0 f.last,
      eq-eqb (length b) t f.long,
    )

-- a half sheet has 0 where the offset of the code stands
pub half_refused : HalfRefused
half_refused p rest = refused (framed (half_of p ++ rest)) _ (λ e. let z = (frame_of (half_of p ++ rest) e).offset in omega arith)
  where
    refused : (b : Bool) (w : Verdict) → (b ≡ true → ⊥) → result_and (unless b SheetHeader 0) w ≡ Err (refusal SheetHeader 0)
    refused true w f = absurd (f refl)
    refused false w f = refl

-- the parts of a sheet that is written
module _ (p : Program) where
  pub sheet-length : length (sheet_of p) ≡ size_of p
  sheet-length =
      let a = length-append (table_bytes p.nodes) (code_bytes p.code) in
      let b = encoded-length node_bytes (λ d. refl) p.nodes in
      let c = encoded-length word_bytes (λ w. refl) p.code in
      omega arith

  pub nodes_of_lem : length p.nodes < 65536 → node_count (sheet_of p) ≡ length p.nodes
  nodes_of_lem h = field_of_two (length p.nodes) h

  pub table_part_lem : length p.nodes < 65536 → table_part (sheet_of p) ≡ table_bytes p.nodes
  table_part_lem h =
      ap (λ (n : ℕ). take (8 * n) (table_bytes p.nodes ++ code_bytes p.code)) (nodes_of_lem h)
      ∙ take_at (table_bytes p.nodes) (code_bytes p.code) (8 * length p.nodes) (encoded-length node_bytes (λ d. refl) p.nodes)

  pub code_part_lem : length p.nodes < 65536 → code_part (sheet_of p) ≡ code_bytes p.code
  code_part_lem h =
      ap (λ (n : ℕ). drop (offset_of n) (sheet_of p)) (nodes_of_lem h)
      ∙ (sym (drop-drop (8 * length p.nodes) 16 (sheet_of p))
      ∙ drop_at (table_bytes p.nodes) (code_bytes p.code) (8 * length p.nodes) (encoded-length node_bytes (λ d. refl) p.nodes))

  pub sheet-framed : size_of p < 65536 → framed (sheet_of p) ≡ true
  sheet-framed h =
      let n : node_count (sheet_of p) ≡ length p.nodes = nodes_of_lem (omega arith) in
      let m : word_count (sheet_of p) ≡ length p.code = field_of_two (length p.code) (omega arith) in
      let o : offset_of (node_count (sheet_of p)) ≡ offset_of (length p.nodes) = ap offset_of n in
      let t : total_of (node_count (sheet_of p)) (word_count (sheet_of p)) ≡ size_of p = ap (λ (k : ℕ). total_of k (word_count (sheet_of p))) n ∙ ap (total_of (length p.nodes)) m in
      framed_by (sheet_of p) (record {
        version = refl;
        start = refl;
        offset = field_of_two (offset_of (length p.nodes)) (omega arith) ∙ sym o;
        total = field_of_two (size_of p) h ∙ sym t;
        spare = refl;
        last = refl;
        long = sheet-length ∙ sym t;
      })
