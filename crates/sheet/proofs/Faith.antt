-- A sheet opens exactly when it is written from an accepted table, and that table stands in it.
use Rattle.std.proofs.Common.{◌≡◌, ℕ, ◌-◌, ◌*◌, ◌/◌, ◌%◌, ◌<◌, ◌≤◌, true, List, [], ◌++◌, length, take, drop, Ok, sym, refl, ap, ◌∙◌, arith, length-drop, length-take-le, drop-drop}
use Rattle.std.specs.Str.{bytes_eq}
use Rattle.std.proofs.ByRecursion.{All-take, All-drop}
use Rattle.std.proofs.lemmas.Slice.Eq.{bytes_eq-Decides}
use Rattle.std.proofs.lemmas.List.{take-append-drop}
use Rattle.vocabulary.specs.declared.refusal.Cause.TheVariants.{TableLength, SheetHeader, NotTheTranslation}
use Rattle.vocabulary.specs.declared.code.Word.{Word}
use Rattle.vocabulary.specs.Refusals.{unless}
use Rattle.language.specs.Names.{names_c}
use Rattle.language.specs.Reading.{tree_of}
use Rattle.language.specs.Table.{field, nodes_of, fits}
use Rattle.language.specs.Verdicts.{table_verdict, nodes_verdict, shape_verdict}
use Rattle.language.proofs.Accepted.{well_formed}
use Rattle.language.proofs.Filling.{length-nodes}
use Rattle.language.proofs.Lengths.{few_words}
use Rattle.language.proofs.Sizes.{root-size}
use Rattle.language.proofs.Verdicts.{both_accept, accept_both, unless_accepts, accept_unless}
use Rattle.sheet.specs.Layout.{two, word_bytes, table_bytes, code_bytes, header, offset_of, total_of, size_of, sheet_of}
use Rattle.sheet.specs.Sheets.{node_count, word_count, framed, table_part, code_part, open_verdict}
use Rattle.sheet.specs.Faithful.{Bytes, program_of, OpensSheets, OneTable, Reopening}
use Rattle.sheet.proofs.Entries.{encoded-length}
use Rattle.sheet.proofs.Fields.{fields-bytes, table-bytes}
use Rattle.sheet.proofs.Framing.{frame_of, table_part_lem, code_part_lem, sheet-framed}
use Rattle.sheet.proofs.Written.{written}

-- the translation of a table
abbrev code_in : List ℕ → List Word
code_in t = (program_of t).code

-- the counts of an accepted table
record Sized (t : List ℕ) : Type 0 where
  eights : length t % 8 ≡ 0
  nodes : length (nodes_of t) ≤ 512
  words : length (code_in t) ≤ 1537

sized : (t : List ℕ) → table_verdict t ≡ Ok tt → Sized t
sized t e =
    let w = well_formed t e in
    let most = w.most in
    let count = length-nodes t (length t / 8) in
    let n : length (nodes_of t) ≤ 512 = omega arith in
    let shape = (both_accept (shape_verdict (nodes_of t)) (names_c (tree_of (nodes_of t)) []) (both_accept (unless (fits (length t)) TableLength 0) (nodes_verdict (nodes_of t)) e).1).0 in
    let size = root-size (nodes_of t) shape in
    let few = few_words (tree_of (nodes_of t)) in
    record { eights = w.eights; nodes = n; words = omega arith }

-- the three parts of opening
record Opened (b : List ℕ) : Type 0 where
  frame : framed b ≡ true
  table : table_verdict (table_part b) ≡ Ok tt
  code : code_part b ≡ code_bytes (code_in (table_part b))

opened : (b : List ℕ) → open_verdict b ≡ Ok tt → Opened b
opened b e =
    let same = bytes_eq (code_part b) (code_bytes (code_in (table_part b))) in
    let f = both_accept (unless (framed b) SheetHeader 0) _ e in
    let g = both_accept (table_verdict (table_part b)) (unless same NotTheTranslation 0) f.1 in
    record {
      frame = unless_accepts (framed b) SheetHeader 0 f.0;
      table = g.0;
      code = (bytes_eq-Decides (code_part b) (code_bytes (code_in (table_part b)))).0 (unless_accepts same NotTheTranslation 0 g.1);
    }

opens : (b : List ℕ) → Opened b → open_verdict b ≡ Ok tt
opens b o =
    let same = bytes_eq (code_part b) (code_bytes (code_in (table_part b))) in
    accept_both (accept_unless (framed b) SheetHeader 0 o.frame)
    (accept_both o.table
    (accept_unless same NotTheTranslation 0 ((bytes_eq-Decides (code_part b) (code_bytes (code_in (table_part b)))).1 o.code)))

-- the table stands in its sheet
table_in : (t : List ℕ) → Bytes t → table_verdict t ≡ Ok tt → table_part (sheet_of (program_of t)) ≡ t
table_in t bytes e = let s = sized t e in let n = s.nodes in table_part_lem (program_of t) (omega arith) ∙ table-bytes t bytes s.eights

sheet-opens : (t : List ℕ) → Bytes t → table_verdict t ≡ Ok tt → open_verdict (sheet_of (program_of t)) ≡ Ok tt
sheet-opens t bytes e =
    let s = sized t e in
    let n = s.nodes in
    let m = s.words in
    let p = program_of t in
    let i = table_in t bytes e in
    opens (sheet_of p) (record {
      frame = sheet-framed p (omega arith);
      table = ap table_verdict i ∙ e;
      code = code_part_lem p (omega arith) ∙ ap (λ (u : List ℕ). code_bytes (code_in u)) (sym i);
    })

-- the header of a sheet that is framed is the one that is written
head_is : (v n m s o t x y offset total : ℕ) → v ≡ 1 → s ≡ 16 → o ≡ offset → t ≡ total → x ≡ 0 → y ≡ 0
    → two v ++ (two n ++ (two m ++ (two s ++ (two o ++ (two t ++ (two x ++ two y)))))) ≡ header n m offset total
head_is v n m s o t x y offset total ev es eo et ex ey = rw (ev, es, eo, et, ex, ey)

sheet_is : (b : List ℕ) → Bytes b → Opened b → b ≡ sheet_of (program_of (table_part b))
sheet_is b bytes o =
    let f = frame_of b o.frame in
    let long = f.long in
    let t = table_part b in
    let n = node_count b in
    let m = word_count b in
    let c = code_in t in
    let w = well_formed t o.table in
    let rest : length (drop 16 b) ≡ length b - 16 = length-drop 16 b in
    let lt : length t ≡ 8 * n = length-take-le (8 * n) (drop 16 b) (omega arith) in
    let count = length-nodes t (length t / 8) in
    let N : n ≡ length (nodes_of t) = (let d : length t / 8 ≡ n = omega arith in sym (count ∙ d)) in
    let lc : length (code_part b) ≡ length b - offset_of n = length-drop (offset_of n) b in
    let le : length (code_part b) ≡ 8 * length c = ap length o.code ∙ encoded-length word_bytes (λ w. refl) c in
    let M : m ≡ length c = omega arith in
    let head : take 16 b ≡ header n m (offset_of n) (total_of n m) =
    sym (fields-bytes b bytes 8 0 (omega arith))
    ∙ head_is (field b 0) n m (field b 6) (field b 8) (field b 10) (field b 12) (field b 14) (offset_of n) (total_of n m) f.version f.start f.offset f.total f.spare f.last in
    let table : t ≡ table_bytes (nodes_of t) = sym (table-bytes t (All-take (λ x. x < 256) (8 * n) (drop 16 b) (All-drop (λ x. x < 256) 16 b bytes)) w.eights) in
    let parts : drop 16 b ≡ t ++ code_part b = sym (take-append-drop (8 * n) (drop 16 b)) ∙ ap (λ (z : List ℕ). t ++ z) (drop-drop (8 * n) 16 b) in
    sym (take-append-drop 16 b)
    ∙ (ap (λ (z : List ℕ). z ++ drop 16 b) (head ∙ (ap (λ (k : ℕ). header k m (offset_of k) (total_of k m)) N ∙ ap (λ (k : ℕ). header (length (nodes_of t)) k (offset_of (length (nodes_of t))) (total_of (length (nodes_of t)) k)) M))
    ∙ ap (λ (z : List ℕ). header (length (nodes_of t)) (length c) (offset_of (length (nodes_of t))) (size_of (program_of t)) ++ z)
    (parts ∙ (ap (λ (z : List ℕ). z ++ code_part b) table ∙ ap (λ (z : List ℕ). table_bytes (nodes_of t) ++ z) o.code)))

pub opens_sheets : OpensSheets
opens_sheets b bytes = record {
  only = λ e.
      let o = opened b e in
      (table_part b, record { bytes = All-take (λ x. x < 256) (8 * node_count b) (drop 16 b) (All-drop (λ x. x < 256) 16 b bytes); accepted = o.table; written = sheet_is b bytes o });
  every = λ t s. ap open_verdict s.written ∙ sheet-opens t s.bytes s.accepted;
}

pub one_table : OneTable
one_table b t u s r =
    sym (table_in t s.bytes s.accepted) ∙ (ap table_part (sym s.written ∙ r.written) ∙ table_in u r.bytes r.accepted)

pub reopening : Reopening
reopening t memory bytes e room =
    let w = written (program_of t) memory room in
    record {
      answer = w.answer;
      opens = ap open_verdict w.sheet ∙ sheet-opens t bytes e;
      same = ap program_of (ap table_part w.sheet ∙ table_in t bytes e);
    }
