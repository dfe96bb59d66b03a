use Rattle.std.proofs.Common.{◌≡◌, List, ℕ, ◌++◌, length, string_bytes, codes, decimal, ap, ◌∙◌}
use Rattle.std.proofs.lemmas.Result.{on_ok_weaker}
use Rattle.std.specs.List.{flat_map}
use Rattle.listing.specs.Page.{tree_heading, tree_line, tree_part}
use Rattle.listing.specs.Rows.{row, walk}
use Rattle.listing.proofs.Joining.{then_more}
use Rattle.listing.proofs.Parting.{heading_is}
use Rattle.listing.proofs.parts.push_tree_part.Goals as goal

pub returns : goal.returns
unfolding tree_part
returns c =
    let nodes = c.args.shaped.nodes.now in
    let s = string_bytes c.args.text.now in
    let t = string_bytes c.write.new.self in
    let h : t ≡ s ++ tree_heading (length nodes) = c.in_ok-write.ensures.bytes ∙ ap (λ (l : List ℕ). s ++ l) (heading_is (codes "Tree: ") (decimal (length nodes)) (codes " nodes") (codes " node  level  form")) in
    on_ok_weaker c.push_tree.result (λ e. then_more s _ _ h (e ∙ ap (λ n. t ++ flat_map (tree_line nodes) (walk nodes (row n 0))) c.root.ensures)) c.push_tree.ensures
