-- What a table and a sheet come to, by their parts.
use Rattle.std.proofs.Common.{◌≡◌, ℕ, ◌-◌, ◌≤◌, Bool, true, false, ◌&&◌, ltb, leb, List, [], length, take, drop, Some, None, Ok, Err, sym, refl, ap, ◌∙◌, arith, length-drop}
use Rattle.std.specs.Result.{result_and}
use Rattle.std.specs.Str.{bytes_eq}
use Rattle.std.proofs.lemmas.List.{take_all}
use Rattle.std.proofs.lemmas.Bool.{and_parts, and_from, eqb-true, lt-ltb, le-leb}
use Rattle.vocabulary.specs.declared.code.Word.{Word}
use Rattle.vocabulary.specs.declared.node.Node.{Node}
use Rattle.vocabulary.specs.declared.refusal.Cause.TheVariants.{NotTheTranslation, TableLength}
use Rattle.vocabulary.specs.declared.refusal.Refusal.{Refusal}
use Rattle.vocabulary.specs.Refusals.{unless}
use Rattle.language.specs.Names.{names_c}
use Rattle.language.specs.Reading.{tree_of}
use Rattle.language.specs.Table.{fits, nodes_of}
use Rattle.language.specs.Verdicts.{shape_verdict, table_verdict, tree_verdict}
use Rattle.language.proofs.Filling.{fitting-count}
use Rattle.sheet.specs.declared.layout.Counts.{Counts}
use Rattle.sheet.specs.Faithful.{program_of}
use Rattle.sheet.specs.Layout.{Program, code_bytes, offset_of, total_of}
use Rattle.sheet.specs.Opening.{counts_in}
use Rattle.sheet.specs.Sheets.{node_count, word_count, framed, table_part, code_part, open_verdict}

-- a table of a length that fits, with a fault of shape
pub misshapen : (table : List ℕ) (nodes : List Node) (e : Refusal) → fits (length table) ≡ true → nodes ≡ nodes_of table
    → tree_verdict nodes ≡ Err e → table_verdict table ≡ Err e
misshapen table nodes e f n v =
    let k = fitting-count table f in
    let ns = nodes_of table in
    let b : (ltb 0 (length ns) && leb (length ns) 512) ≡ true = and_from _ _ (lt-ltb 0 (length ns) k.0) (le-leb (length ns) 512 k.1) in
    let s : shape_verdict ns ≡ Err e = sym (ap (λ (b : Bool). result_and (unless b TableLength 0) (shape_verdict ns)) b) ∙ (ap tree_verdict (sym n) ∙ v) in
    ap (λ (b : Bool). result_and (unless b TableLength 0) (result_and (shape_verdict ns) (names_c (tree_of ns) []))) f
    ∙ ap (λ r. result_and r (names_c (tree_of ns) [])) s

-- a sheet whose header is right: its counts, and where its table and its code stand
pub record Frame (sheet : List ℕ) (counts : Counts) : Type 0 where
  pub right : framed sheet ≡ true
  pub nodes : counts.nodes ≡ node_count sheet
  pub long : length sheet ≡ total_of (node_count sheet) (word_count sheet)

pub frame_is : (sheet : List ℕ) (counts : Counts) → Some counts ≡ counts_in sheet → Frame sheet counts
frame_is sheet counts e = go (framed sheet) refl
  where
    go : (b : Bool) → framed sheet ≡ b → Frame sheet counts
    go true f =
        let g : Some counts ≡ Some (record { nodes = node_count sheet; words = word_count sheet }) = rw f at e in
        let p = and_parts _ _ f in
        record { right = f; nodes = cc; long = eqb-true _ _ p.1 }
    go false f =
        let g : Some counts ≡ None = rw f at e in
        let z : ◌≡◌ {A = ℕ} 0 1 = cc in absurd (omega arith)

module _ (sheet : List ℕ) (counts : Counts) (f : Frame sheet counts) (at : ℕ) (here : at ≡ offset_of counts.nodes) where
  pub table_part_lem : take (at - 16) (drop 16 sheet) ≡ table_part sheet
  table_part_lem = ap (λ (m : ℕ). take m (drop 16 sheet)) (let n = f.nodes in omega arith)

  -- a table that is refused
  pub table-refused : (r : Refusal) → table_verdict (take (at - 16) (drop 16 sheet)) ≡ Err r → open_verdict sheet ≡ Err r
  table-refused r e = let g : table_verdict (table_part sheet) ≡ Err r = rw table_part_lem at e in rw (f.right, g)

  -- a table that is accepted: what is left is the comparison of the code
  pub code_decides : (p : Program) (words : List Word) (b : Bool) → table_verdict (take (at - 16) (drop 16 sheet)) ≡ Ok tt →
      p ≡ program_of (take (at - 16) (drop 16 sheet)) → words ≡ p.code → b ≡ bytes_eq (take (length sheet - at) (drop at sheet)) (code_bytes words) →
      (open_verdict sheet ≡ unless b NotTheTranslation 0) × (p ≡ program_of (table_part sheet))
  code_decides p words b e h q s =
      let g : table_verdict (table_part sheet) ≡ Ok tt = rw table_part_lem at e in
      let i : p ≡ program_of (table_part sheet) = h ∙ ap program_of table_part_lem in
      let l : length (drop at sheet) ≤ length sheet - at = rw length-drop (omega arith) in
      let j : take (length sheet - at) (drop at sheet) ≡ code_part sheet = take_all (length sheet - at) (drop at sheet) l ∙ ap (λ (n : ℕ). drop n sheet) (here ∙ ap offset_of f.nodes) in
      let w : words ≡ (program_of (table_part sheet)).code = q ∙ ap (λ (x : Program). x.code) i in
      let t : b ≡ bytes_eq (code_part sheet) (code_bytes (program_of (table_part sheet)).code) =
      s ∙ (ap (λ (x : List ℕ). bytes_eq x (code_bytes words)) j ∙ ap (λ (x : List Word). bytes_eq (code_part sheet) (code_bytes x)) w) in
      (rw (f.right, g) (ap (λ (x : Bool). unless x NotTheTranslation 0) (sym t)), i)
