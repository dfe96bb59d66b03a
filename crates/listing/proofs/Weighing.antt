-- The rows of an accepted table, by a weight for each node: the weight of the rows is the weight of all nodes, by double
-- counting. At weight 1 that is how many rows there are; at 'is node k', how often k has a row.
use Rattle.std.proofs.Common.{◌≡◌, ℕ, zero, suc, ◌+◌, ◌<◌, List, [], ◌∷◌, ◌++◌, length, Ok, sym, refl, ap, ◌∙◌, arith}
use Rattle.std.specs.List.{flat_map}
use Rattle.vocabulary.specs.declared.node.Node.{Node}
use Rattle.language.specs.declared.kind.ChildField.{ChildField}
use Rattle.language.specs.Fields.{children}
use Rattle.language.specs.Table.{at, hit, root_of}
use Rattle.language.specs.Verdicts.{shape_verdict}
use Rattle.language.proofs.Counting.{sum_of, sum_to, sum_to_ones, sum_to-found}
use Rattle.language.proofs.Shape.{shaped}
use Rattle.language.proofs.Sizes.{some, root-total}
use Rattle.listing.specs.declared.rows.Row.{Row}
use Rattle.listing.specs.Rows.{row, rows_of, rows_with, walked, walk}
use Rattle.listing.proofs.Walking.{walk_is}

abbrev weigh : (ℕ → ℕ) → List Row → ℕ
weigh w [] = 0
weigh w (r ∷ rows) = w r.node + weigh w rows

weigh-++ : (w : ℕ → ℕ) (xs ys : List Row) → weigh w (xs ++ ys) ≡ weigh w xs + weigh w ys
weigh-++ w [] ys = omega arith
weigh-++ w (x ∷ xs) ys = let h = weigh-++ w xs ys in omega arith

weigh-joined : (w : ℕ → ℕ) (f : ℕ → List Row) (held : List ChildField) → weigh w (flat_map (λ child. f child.number) held) ≡ sum_of (λ n. weigh w (f n)) held
weigh-joined w f [] = refl
weigh-joined w f (x ∷ held) =
    let h = weigh-joined w f held in
    let e = weigh-++ w (f x.number) (flat_map (λ child. f child.number) held) in
    omega arith

sum_of_same : (f g : ℕ → ℕ) → ((n : ℕ) → f n ≡ g n) → (held : List ChildField) → sum_of f held ≡ sum_of g held
sum_of_same f g e [] = refl
sum_of_same f g e (x ∷ held) = let h = sum_of_same f g e held in let a = e x.number in omega arith

module _ (w : ℕ → ℕ) (nodes : List Node) where
  level_free : (d n l m : ℕ) → weigh w (walked d nodes (row n l)) ≡ weigh w (walked d nodes (row n m))
  unfolding walked
  level_free zero n l m = refl
  level_free (suc d) n l m =
      let held = children (at nodes n) in
      let a = weigh-joined w (λ k. walked d nodes (row k (l + 1))) held in
      let b = weigh-joined w (λ k. walked d nodes (row k (m + 1))) held in
      let e = sum_of_same (λ k. weigh w (walked d nodes (row k (l + 1)))) (λ k. weigh w (walked d nodes (row k (m + 1)))) (λ k. level_free d k (l + 1) (m + 1)) held in
      omega arith

  size : ℕ → ℕ
  size n = weigh w (walk nodes (row n 0))

  module _ (accepted : shape_verdict nodes ≡ Ok tt) where
    size_is : (n : ℕ) → n < length nodes → size n ≡ w n + sum_of size (children (at nodes n))
    unfolding size
    size_is n l =
        let held = children (at nodes n) in
        let a = ap (weigh w) (walk_is nodes (λ k u. ((shaped nodes accepted).keep k u).below) (row n 0) l) in
        let b = weigh-joined w (λ k. walk nodes (row k (0 + 1))) held in
        let e = sum_of_same (λ k. weigh w (walk nodes (row k (0 + 1)))) size (λ k. level_free (suc k) k (0 + 1) 0) held in
        omega arith

    pub rows-weigh : weigh w (rows_of nodes) ≡ sum_to (length nodes) w
    unfolding size
    rows-weigh =
        let s = some nodes (shaped nodes accepted).root in
        let is : length nodes ≡ suc (root_of nodes) = omega arith in
        root-total nodes (shaped nodes accepted) (root_of nodes) is w size size_is ∙ ap (λ (m : ℕ). sum_to m w) (sym is)

count_is : (rows : List Row) → length rows ≡ weigh (λ _. 1) rows
count_is [] = refl
count_is (r ∷ rows) = let h = count_is rows in omega arith

with_is : (k : ℕ) (rows : List Row) → rows_with k rows ≡ weigh (hit k) rows
with_is k [] = refl
with_is k (r ∷ rows) = let h = with_is k rows in omega arith

module _ (nodes : List Node) (accepted : shape_verdict nodes ≡ Ok tt) where
  pub as_many_rows : length (rows_of nodes) ≡ length nodes
  as_many_rows = count_is (rows_of nodes) ∙ rows-weigh (λ _. 1) nodes accepted ∙ sum_to_ones (length nodes)

  pub one_row : (k : ℕ) → k < length nodes → rows_with k (rows_of nodes) ≡ 1
  one_row k l = with_is k (rows_of nodes) ∙ rows-weigh (hit k) nodes accepted ∙ sum_to-found (length nodes) k l
