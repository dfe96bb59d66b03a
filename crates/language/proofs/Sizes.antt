-- The tree of an accepted table has as many nodes as the table.
use Rattle.std.proofs.Common.{◌≡◌, ℕ, zero, suc, ◌+◌, ◌<◌, ◌≤◌, true, cond, List, [], ◌∷◌, length, Ok, sym, refl, ap, ◌∙◌, subst, ⊎_elim, arith}
use Rattle.std.proofs.lemmas.Bool.{and_from}
use Rattle.std.proofs.lemmas.Bool.Decides.{nat_tests}
use Rattle.vocabulary.specs.declared.node.Node.{Node}
use Rattle.language.specs.declared.kind.Sort.TheVariants.{Command, Declaration}
use Rattle.language.specs.declared.kind.ChildField.{ChildField}
use Rattle.language.specs.Fields.{children, is_of}
use Rattle.language.specs.Reading.{FormE, FormC, FormD, form_e, form_c, form_d, grow_e, grow_c, grow_d, tree_e, tree_c, tree_d, tree_of}
use Rattle.language.specs.Reading.FormE.{number_f, truth_f, read_f, name_f, operation_f, function_call_f, choice_f}
use Rattle.language.specs.Reading.FormC.{assign_f, output_f, when_f, while_f, block_f, sequence_f, procedure_call_f}
use Rattle.language.specs.Reading.FormD.{constant_f, variable_f, procedure_f, function_f, pair_f}
use Rattle.language.specs.Sound.{IsE, IsC, IsD, SoundE, SoundC, SoundD, Sound}
use Rattle.language.specs.Table.{at, lower, times, children_in, root_of}
use Rattle.language.specs.Tree.{size_e, size_c, size_d}
use Rattle.language.specs.Verdicts.{shape_verdict}
use Rattle.language.proofs.ByKind.{held_e, held_c, held_d, children_e, children_c, children_d, is_from}
use Rattle.language.proofs.Counting.{sum_of, sum_to, sum_to_ones, whole}
use Rattle.language.proofs.Fielded.{lower-++, lower_more}
use Rattle.language.proofs.Shape.{Shaped, shaped, sound_from}
use Rattle.language.proofs.Trees.{tree_e_is, tree_c_is, tree_d_is}

-- how many nodes the tree at a node has, by its sort
unfoldable size_at : List Node → ℕ → ℕ
size_at nodes n =
    cond (is_of Command (at nodes n).kind) (size_c (tree_c nodes n))
    (cond (is_of Declaration (at nodes n).kind) (size_d (tree_d nodes n)) (size_e (tree_e nodes n)))

module _ (nodes : List Node) where
  at_c : (n : ℕ) → IsC nodes n → size_at nodes n ≡ size_c (tree_c nodes n)
  unfolding size_at
  at_c n i = let lo = i.0 in let hi = i.1 in grind (arith, nat_tests)

  at_d : (n : ℕ) → IsD nodes n → size_at nodes n ≡ size_d (tree_d nodes n)
  unfolding size_at
  at_d n i = let lo = i.0 in let hi = i.1 in grind (arith, nat_tests)

  at_e : (n : ℕ) → IsE nodes n → size_at nodes n ≡ size_e (tree_e nodes n)
  unfolding size_at
  at_e n i = let lo = i.0 in let hi = i.1 in grind (arith, nat_tests)

  -- the size of a form's tree: one more than those of its children
  grown_e_lem : (n : ℕ) (F : FormE) → SoundE nodes n F → size_e (grow_e (tree_e nodes) n F) ≡ 1 + sum_of (size_at nodes) (held_e F)
  grown_e_lem n (number_f z) h = refl
  grown_e_lem n (truth_f t) h = refl
  grown_e_lem n read_f h = refl
  grown_e_lem n (name_f x) h = refl
  grown_e_lem n (operation_f o a b) h = let p = at_e a h.0.1 in let q = at_e b h.1.1 in omega arith
  grown_e_lem n (function_call_f f a) h = let p = at_e a h.1 in omega arith
  grown_e_lem n (choice_f a b c) h = let p = at_e a h.0.1 in let q = at_e b h.1.1 in let r = at_e c h.2.1 in omega arith

  grown_c_lem : (n : ℕ) (F : FormC) → SoundC nodes n F → size_c (grow_c (tree_e nodes) (tree_c nodes) (tree_d nodes) n F) ≡ 1 + sum_of (size_at nodes) (held_c F)
  grown_c_lem n (assign_f a b) h = let p = at_e a h.0.1 in let q = at_e b h.1.1 in omega arith
  grown_c_lem n (output_f a) h = let p = at_e a h.1 in omega arith
  grown_c_lem n (when_f a b c) h = let p = at_e a h.0.1 in let q = at_c b h.1.1 in let r = at_c c h.2.1 in omega arith
  grown_c_lem n (while_f a b) h = let p = at_e a h.0.1 in let q = at_c b h.1.1 in omega arith
  grown_c_lem n (block_f a b) h = let p = at_d a h.0.1 in let q = at_c b h.1.1 in omega arith
  grown_c_lem n (sequence_f a b) h = let p = at_c a h.0.1 in let q = at_c b h.1.1 in omega arith
  grown_c_lem n (procedure_call_f f a) h = let p = at_e a h.1 in omega arith

  grown_d_lem : (n : ℕ) (F : FormD) → SoundD nodes n F → size_d (grow_d (tree_e nodes) (tree_c nodes) (tree_d nodes) n F) ≡ 1 + sum_of (size_at nodes) (held_d F)
  grown_d_lem n (constant_f x a) h = let p = at_e a h.1 in omega arith
  grown_d_lem n (variable_f x a) h = let p = at_e a h.1 in omega arith
  grown_d_lem n (procedure_f x a y) h = let p = at_c a h.1 in omega arith
  grown_d_lem n (function_f x a y) h = let p = at_e a h.1 in omega arith
  grown_d_lem n (pair_f a b) h = let p = at_d a h.0.1 in let q = at_d b h.1.1 in omega arith

abbrev weight : List Node → List ChildField → ℕ
weight nodes cs = 1 + sum_of (size_at nodes) cs

module _ (nodes : List Node) (sound : Sound nodes) (n : ℕ) (l : n < length nodes) where
  row : size_at nodes n ≡ weight nodes (children (at nodes n))
  row =
      ⊎_elim
      (λ (i : IsE nodes n). at_e nodes n i ∙ ap size_e (tree_e_is nodes sound n l i) ∙ grown_e_lem nodes n (form_e (at nodes n)) (sound.expressions n l i) ∙ ap (weight nodes) (sym (children_e (at nodes n) i.0 i.1)))
      (⊎_elim
      (λ (i : IsC nodes n). at_c nodes n i ∙ ap size_c (tree_c_is nodes sound n l i) ∙ grown_c_lem nodes n (form_c (at nodes n)) (sound.commands n l i) ∙ ap (weight nodes) (sym (children_c (at nodes n) i.0 i.1)))
      (λ (i : IsD nodes n). at_d nodes n i ∙ ap size_d (tree_d_is nodes sound n l i) ∙ grown_d_lem nodes n (form_d (at nodes n)) (sound.declarations n l i) ∙ ap (weight nodes) (sym (children_d (at nodes n) i.0 i.1))))
      (sound.sorts n l)

module _ (nodes : List Node) (shape : Shaped nodes) (r : ℕ) (is : length nodes ≡ suc r) where
  all_lower : (m : ℕ) → m ≤ suc r → lower r (children_in nodes m) ≡ true
  unfolding children_in
  all_lower zero h = refl
  all_lower (suc m) h =
      lower-++ r (children_in nodes m) (children (at nodes m))
      ∙ and_from _ _ (all_lower m (omega arith)) (lower_more m r (children (at nodes m)) (omega arith) (shape.keep m (omega arith)).below)

  -- where a size is a weight with the sizes of the children, that of the root is the weight of all nodes
  pub root-total : (weight size : ℕ → ℕ) → ((n : ℕ) → n < length nodes → size n ≡ weight n + sum_of size (children (at nodes n))) → size r ≡ sum_to (suc r) weight
  unfolding children_in
  root-total weight size each =
      whole (λ k. children (at nodes k)) (children_in nodes) refl (λ m. refl) weight size r
      (λ n l. each n (omega arith)) (all_lower (suc r) (omega arith))
      (λ k l. subst (λ (m : ℕ). times k (children_in nodes m) ≡ 1) is (shape.once k (omega arith)))

  root-size_at : size_at nodes r ≡ suc r
  root-size_at = root-total (λ _. 1) (size_at nodes) (row nodes (sound_from nodes shape.keep)) ∙ sum_to_ones (suc r)

pub some : (nodes : List Node) → is_of Command (at nodes (root_of nodes)).kind ≡ true → 0 < length nodes
some [] e = let z : ◌≡◌ {A = ℕ} 0 1 = cc in absurd (omega arith)
some (d ∷ nodes) e = omega arith

pub root-size : (nodes : List Node) → shape_verdict nodes ≡ Ok tt → size_c (tree_of nodes) ≡ length nodes
root-size nodes e =
    let shape = shaped nodes e in
    let s = some nodes shape.root in
    let is : length nodes ≡ suc (root_of nodes) = omega arith in
    sym (at_c nodes (root_of nodes) (is_from Command nodes (root_of nodes) shape.root)) ∙ root-size_at nodes shape (root_of nodes) is ∙ sym is
