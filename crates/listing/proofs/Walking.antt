-- A walk from a node: the node, then the walks of its children; and the lines of rows that are put together.
use Rattle.std.proofs.Common.{◌≡◌, ℕ, zero, suc, ◌+◌, ◌<◌, true, List, [], ◌∷◌, ◌++◌, length, get_or, take, Ok, refl, ap, ◌∙◌, append-nil, arith}
use Rattle.std.specs.List.{flat_map}
use Rattle.std.proofs.lemmas.Bool.{and_parts, ltb-true}
use Rattle.std.proofs.lemmas.Grind.{flat_map-append}
use Rattle.std.proofs.lemmas.List.{take_more}
use Rattle.vocabulary.specs.declared.node.Node.{Node}
use Rattle.language.specs.declared.kind.ChildField.{ChildField}
use Rattle.language.specs.Fields.{children}
use Rattle.language.specs.Table.{at, lower}
use Rattle.language.specs.Verdicts.{shape_verdict}
use Rattle.language.proofs.Shape.{shaped}
use Rattle.listing.specs.declared.rows.Row.{Row}
use Rattle.listing.specs.Page.{tree_line}
use Rattle.listing.specs.Rows.{row, walked, walk, walks}

-- what agrees on the numbers below m agrees on children that are lower than m
pub same_below : (m : ℕ) (f g : ℕ → List Row) → ((n : ℕ) → n < m → f n ≡ g n) → (held : List ChildField) → lower m held ≡ true → flat_map (λ child. f child.number) held ≡ flat_map (λ child. g child.number) held
same_below m f g e [] h = refl
same_below m f g e (x ∷ held) h =
    let p = and_parts _ _ h in
    let a : f x.number ≡ g x.number = e x.number (ltb-true _ _ p.0) in
    let b = same_below m f g e held p.1 in
    ap (λ (l : List Row). l ++ flat_map (λ child. f child.number) held) a ∙ ap (λ (l : List Row). g x.number ++ l) b

module _ (nodes : List Node) (below : (n : ℕ) → n < length nodes → lower n (children (at nodes n)) ≡ true) where
  -- a depth above the node's number never runs out
  depth_free : (d e : ℕ) (here : Row) → here.node < length nodes → here.node < d → here.node < e → walked d nodes here ≡ walked e nodes here
  unfolding walked
  depth_free zero e here l u v = absurd (omega arith)
  depth_free (suc d) zero here l u v = absurd (omega arith)
  depth_free (suc d) (suc e) here l u v =
      ap (λ (rows : List Row). here ∷ rows)
      (same_below here.node (λ n. walked d nodes (row n (here.level + 1))) (λ n. walked e nodes (row n (here.level + 1)))
      (λ n q. depth_free d e (row n (here.level + 1)) (omega arith) (omega arith) (omega arith)) (children (at nodes here.node)) (below here.node l))

  -- a walk is its row, and then the walks of the children
  pub walk_is : (here : Row) → here.node < length nodes → walk nodes here ≡ here ∷ walks nodes here (children (at nodes here.node))
  unfolding walked
  walk_is here l =
      ap (λ (rows : List Row). here ∷ rows)
      (same_below here.node (λ n. walked here.node nodes (row n (here.level + 1))) (λ n. walk nodes (row n (here.level + 1)))
      (λ n q. depth_free here.node (suc n) (row n (here.level + 1)) (omega arith) (omega arith) (omega arith)) (children (at nodes here.node)) (below here.node l))

-- the lines from a row's node down are its line, and then those below each child
module _ (nodes : List Node) (here : Row) where
  abbrev pub lines : List ChildField → List ℕ
  lines held = flat_map (tree_line nodes) (walks nodes here held)

  pub all_lines : shape_verdict nodes ≡ Ok tt → here.node < length nodes → flat_map (tree_line nodes) (walk nodes here) ≡ tree_line nodes here ++ lines (children (at nodes here.node))
  all_lines accepted l = ap (flat_map (tree_line nodes)) (walk_is nodes (λ n u. ((shaped nodes accepted).keep n u).below) here l)

  pub lines_more : (held : List ChildField) (i : ℕ) (d : ChildField) → i < length held
      → lines (take (i + 1) held) ≡ lines (take i held) ++ flat_map (tree_line nodes) (walk nodes (row (get_or held i d).number (here.level + 1)))
  lines_more held i d l =
      let walk_of = λ (c : ChildField). walk nodes (row c.number (here.level + 1)) in
      ap (λ (cs : List ChildField). lines cs) (take_more held i d l)
      ∙ ap (flat_map (tree_line nodes)) (flat_map-append walk_of (take i held) (get_or held i d ∷ []))
      ∙ flat_map-append (tree_line nodes) (walks nodes here (take i held)) (walks nodes here (get_or held i d ∷ []))
      ∙ ap (λ (rows : List Row). lines (take i held) ++ flat_map (tree_line nodes) rows) (append-nil (walk_of (get_or held i d)))
