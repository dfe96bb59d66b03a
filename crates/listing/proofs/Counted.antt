-- How many lines a page has: no number, name or word holds byte 10, so each line ends where it should.
use Rattle.std.proofs.Common.{◌≡◌, ℕ, zero, suc, ◌+◌, ◌-◌, ◌*◌, ◌/◌, ◌%◌, ◌≤◌, min, Bool, true, false, cond, eqb, List, [], ◌∷◌, ◌++◌, length, ℤ, pos, negsuc, Ok, codes, decimal, refl, ap, ◌∙◌, arith}
use Rattle.std.specs.List.{flat_map}
use Rattle.std.specs.Fmt.{digit_glyph, digits_onto, digits, signed_decimal}
use Rattle.std.proofs.lemmas.Bool.{ne_eqb}
use Rattle.std.proofs.lemmas.Bool.Decides.{nat_tests}
use Rattle.vocabulary.specs.declared.code.Operation.{Operation}
use Rattle.vocabulary.specs.declared.code.Operation.TheVariants.{Sum, Difference, Product, Quotient, Equal, Less}
use Rattle.vocabulary.specs.declared.code.Instruction.{Instruction}
use Rattle.vocabulary.specs.declared.code.Instruction.TheVariants.{Num, Truth, Read, Look, Deref, Op, JumpFalse, Jump, Call, Ret, IsLoc, Store, Put, Enter, Leave, Bind, New, Clos, Halt}
use Rattle.vocabulary.specs.declared.code.Word.{Word}
use Rattle.vocabulary.specs.declared.node.Node.{Node}
use Rattle.vocabulary.specs.Codes.{name_of, operand_of, operation_name}
use Rattle.language.specs.declared.kind.Sort.TheVariants.{Command, Declaration}
use Rattle.language.specs.Fields.{is_of}
use Rattle.language.specs.Reading.{FormE, FormC, FormD, form_e, form_c, form_d}
use Rattle.language.specs.Reading.FormE.{number_f, truth_f, read_f, name_f, operation_f, function_call_f, choice_f}
use Rattle.language.specs.Reading.FormC.{assign_f, output_f, when_f, while_f, block_f, sequence_f, procedure_call_f}
use Rattle.language.specs.Reading.FormD.{constant_f, variable_f, procedure_f, function_f, pair_f}
use Rattle.language.specs.Table.{at, hit}
use Rattle.language.specs.Verdicts.{shape_verdict}
use Rattle.language.specs.Words.{words_e, words_c, words_d, words_of}
use Rattle.listing.specs.declared.rows.Row.{Row}
use Rattle.listing.specs.Counts.{lines_in, OneLineEach}
use Rattle.listing.specs.Page.{spaces, left, right, line, tree_line, code_line, code_lines, tree_heading, code_heading, tree_part, code_part, page}
use Rattle.listing.specs.Rows.{rows_of}
use Rattle.listing.proofs.Weighing.{as_many_rows, one_row}

lines-++ : (xs ys : List ℕ) → lines_in (xs ++ ys) ≡ lines_in xs + lines_in ys
lines-++ [] ys = omega arith
lines-++ (x ∷ xs) ys = let h = lines-++ xs ys in omega arith

-- a text within a line
abbrev Flat : List ℕ → Type 0
Flat text = lines_in text ≡ 0

flat-++ : (xs ys : List ℕ) → Flat xs → Flat ys → Flat (xs ++ ys)
flat-++ xs ys h g = let e = lines-++ xs ys in omega arith

flat_spaces : (n : ℕ) → Flat (spaces n)
flat_spaces zero = refl
flat_spaces (suc n) = let h = flat_spaces n in omega arith

flat_right : (w : ℕ) (text : List ℕ) → Flat text → Flat (right w text)
flat_right w text h = flat-++ (spaces (w - length text)) text (flat_spaces (w - length text)) h

flat_left : (w : ℕ) (text : List ℕ) → Flat text → Flat (left w text)
flat_left w text h = flat-++ text (spaces (w - length text)) h (flat_spaces (w - length text))

flat_either : (b : Bool) (x y : List ℕ) → Flat x → Flat y → Flat (cond b x y)
flat_either true x y h g = h
flat_either false x y h g = g

-- numbers
digit_high : (d : ℕ) → 48 ≤ digit_glyph false d
digit_high d = grind (arith, nat_tests)

flat_more : (d : ℕ) (text : List ℕ) → 48 ≤ d → Flat text → Flat (d ∷ text)
flat_more d text l h = let e : hit 10 d ≡ 0 = ap (λ (b : Bool). cond b 1 0) (ne_eqb 10 d (λ q. omega arith)) in omega arith

flat_spelled : (k n : ℕ) (text : List ℕ) → Flat text → Flat (digits_onto k 10 false n text)
flat_spelled zero n text h = h
flat_spelled (suc k) n text h =
    let g = flat_more (digit_glyph false (n % 10)) text (digit_high (n % 10)) h in
    flat_either (eqb (n / 10) 0) _ _ g (flat_spelled k (n / 10) (digit_glyph false (n % 10) ∷ text) g)

flat_decimal : (n : ℕ) → Flat (decimal n)
unfolding digits
flat_decimal n = flat_spelled 64 n [] refl

flat_signed : (z : ℤ) → Flat (signed_decimal z)
flat_signed (pos n) = flat_decimal n
flat_signed (negsuc n) = flat-++ (45 ∷ []) (decimal (suc n)) refl (flat_decimal (suc n))

-- names and words
flat_name : (i : Instruction) → Flat (name_of i)
flat_name (Num z) = refl
flat_name (Truth t) = refl
flat_name Read = refl
flat_name (Look d) = refl
flat_name Deref = refl
flat_name (Op o) = refl
flat_name (JumpFalse p) = refl
flat_name (Jump p) = refl
flat_name (Call d) = refl
flat_name Ret = refl
flat_name IsLoc = refl
flat_name Store = refl
flat_name Put = refl
flat_name Enter = refl
flat_name Leave = refl
flat_name Bind = refl
flat_name New = refl
flat_name (Clos p) = refl
flat_name Halt = refl

flat_operation : (o : Operation) → Flat (operation_name o)
flat_operation Sum = refl
flat_operation Difference = refl
flat_operation Product = refl
flat_operation Quotient = refl
flat_operation Equal = refl
flat_operation Less = refl

flat_e : (F : FormE) → Flat (words_e F)
flat_e (number_f z) = flat-++ (codes "number ") (signed_decimal z) refl (flat_signed z)
flat_e (truth_f t) = flat-++ (codes "truth ") _ refl (flat_either t (codes "true") (codes "false") refl refl)
flat_e read_f = refl
flat_e (name_f x) = flat-++ (codes "name ") (decimal x) refl (flat_decimal x)
flat_e (operation_f o a b) = flat-++ (codes "operation ") (operation_name o) refl (flat_operation o)
flat_e (function_call_f f a) = flat-++ (codes "function call ") (decimal f) refl (flat_decimal f)
flat_e (choice_f a b c) = refl

flat_c : (F : FormC) → Flat (words_c F)
flat_c (assign_f a b) = refl
flat_c (output_f a) = refl
flat_c (when_f a b c) = refl
flat_c (while_f a b) = refl
flat_c (block_f a b) = refl
flat_c (sequence_f a b) = refl
flat_c (procedure_call_f f a) = flat-++ (codes "procedure call ") (decimal f) refl (flat_decimal f)

flat_two : (before after : List ℕ) (x y : ℕ) → Flat before → Flat after → Flat (before ++ decimal x ++ after ++ decimal y)
flat_two before after x y h g = flat-++ (before ++ decimal x ++ after) (decimal y) (flat-++ (before ++ decimal x) after (flat-++ before (decimal x) h (flat_decimal x)) g) (flat_decimal y)

flat_d : (F : FormD) → Flat (words_d F)
flat_d (constant_f x a) = flat-++ (codes "constant ") (decimal x) refl (flat_decimal x)
flat_d (variable_f x a) = flat-++ (codes "variable ") (decimal x) refl (flat_decimal x)
flat_d (procedure_f x a y) = flat_two (codes "procedure ") (codes ", parameter ") x y refl refl
flat_d (function_f x a y) = flat_two (codes "function ") (codes ", parameter ") x y refl refl
flat_d (pair_f a b) = refl

flat_words : (d : Node) → Flat (words_of d)
unfolding words_of
flat_words d =
    let other = cond (is_of Declaration d.kind) (words_d (form_d d)) (words_e (form_e d)) in
    flat_either (is_of Command d.kind) (words_c (form_c d)) other (flat_c (form_c d)) (flat_either (is_of Declaration d.kind) (words_d (form_d d)) (words_e (form_e d)) (flat_d (form_d d)) (flat_e (form_e d)))

-- lines
one : (text : List ℕ) → Flat text → lines_in (line text) ≡ 1
one text h = lines-++ text (10 ∷ []) ∙ ap (λ (n : ℕ). n + 1) h

tree-line : (nodes : List Node) (r : Row) → lines_in (tree_line nodes r) ≡ 1
tree-line nodes r =
    let a = right 5 (decimal r.node) in
    let b = right 7 (decimal r.level) in
    let c = spaces (2 + 2 * min r.level 30) in
    let d = words_of (at nodes r.node) in
    one (a ++ b ++ c ++ d)
    (flat-++ (a ++ b ++ c) d (flat-++ (a ++ b) c (flat-++ a b (flat_right 5 _ (flat_decimal r.node)) (flat_right 7 _ (flat_decimal r.level))) (flat_spaces (2 + 2 * min r.level 30))) (flat_words (at nodes r.node)))

code-line : (p : ℕ) (w : Word) → lines_in (code_line p w) ≡ 1
code-line p w =
    let a = right 8 (decimal p) in
    let b = left 11 (name_of w.instruction) in
    let c = right 13 (signed_decimal (operand_of w.instruction)) in
    let d = right 7 (decimal w.node) in
    one (a ++ spaces 2 ++ b ++ c ++ d)
    (flat-++ (a ++ spaces 2 ++ b ++ c) d
    (flat-++ (a ++ spaces 2 ++ b) c (flat-++ (a ++ spaces 2) b (flat-++ a (spaces 2) (flat_right 8 _ (flat_decimal p)) refl) (flat_left 11 _ (flat_name w.instruction))) (flat_right 13 _ (flat_signed (operand_of w.instruction))))
    (flat_right 7 _ (flat_decimal w.node)))

tree-lines : (nodes : List Node) (rows : List Row) → lines_in (flat_map (tree_line nodes) rows) ≡ length rows
tree-lines nodes [] = refl
tree-lines nodes (r ∷ rows) =
    let h = tree-lines nodes rows in
    let a = tree-line nodes r in
    let e = lines-++ (tree_line nodes r) (flat_map (tree_line nodes) rows) in
    omega arith

code_lines_lem : (p : ℕ) (code : List Word) → lines_in (code_lines p code) ≡ length code
code_lines_lem p [] = refl
code_lines_lem p (w ∷ code) =
    let h = code_lines_lem (p + 1) code in
    let a = code-line p w in
    let e = lines-++ (code_line p w) (code_lines (p + 1) code) in
    omega arith

heading : (before after columns : List ℕ) (n : ℕ) → Flat before → Flat after → Flat columns → lines_in (line (before ++ decimal n ++ after) ++ line columns) ≡ 2
heading before after columns n h g k =
    let a = one (before ++ decimal n ++ after) (flat-++ (before ++ decimal n) after (flat-++ before (decimal n) h (flat_decimal n)) g) in
    let b = one columns k in
    let e = lines-++ (line (before ++ decimal n ++ after)) (line columns) in
    omega arith

tree_part_lem : (nodes : List Node) → lines_in (tree_part nodes) ≡ 2 + length (rows_of nodes)
unfolding tree_part
tree_part_lem nodes =
    let a = heading (codes "Tree: ") (codes " nodes") (codes " node  level  form") (length nodes) refl refl refl in
    let b = tree-lines nodes (rows_of nodes) in
    let e = lines-++ (tree_heading (length nodes)) (flat_map (tree_line nodes) (rows_of nodes)) in
    omega arith

code_part_lem : (code : List Word) → lines_in (code_part code) ≡ 2 + length code
unfolding code_part
code_part_lem code =
    let a = heading (codes "Code: ") (codes " words") (codes "position  instruction      operand   node") (length code) refl refl refl in
    let b = code_lines_lem 0 code in
    let e = lines-++ (code_heading (length code)) (code_lines 0 code) in
    omega arith

page-lines : (nodes : List Node) (code : List Word) → lines_in (page nodes code) ≡ 5 + length (rows_of nodes) + length code
page-lines nodes code =
    let a = tree_part_lem nodes in
    let b = code_part_lem code in
    let e = lines-++ (tree_part nodes) (line []) in
    let f = lines-++ (tree_part nodes ++ line []) (code_part code) in
    omega arith

pub one_line-each : (nodes : List Node) → shape_verdict nodes ≡ Ok tt → OneLineEach nodes
one_line-each nodes accepted = record {
  once = one_row nodes accepted;
  rows = as_many_rows nodes accepted;
  lines = λ code. page-lines nodes code ∙ ap (λ (n : ℕ). 5 + n + length code) (as_many_rows nodes accepted);
}
