-- The text so far, with the lines of one child after another, is the text with the lines of the walk.
use Rattle.std.proofs.Common.{◌≡◌, ◌++◌, true, List, string_bytes, take, sym, ap, subst, append-nil, ◌∙◌, take_all, arith}
use Rattle.language.specs.declared.kind.ChildField.{ChildField}
use Rattle.language.specs.Fields.{children}
use Rattle.language.specs.Table.{at, lower}
use Rattle.language.proofs.Shape.{shaped}
use Rattle.language.proofs.Tallying.{lower_at, nobody}
use Rattle.listing.specs.Page.{tree_line}
use Rattle.listing.proofs.Joining.{then_more}
use Rattle.listing.proofs.Walking.{lines, all_lines, lines_more}
use Rattle.listing.proofs.tree.+push_tree.Goals as goal

pub push_tree-requires : goal.push_tree-requires
push_tree-requires t c =
    let nodes = c.args.shaped.nodes.now in
    let n = c.args.row.node in
    let cs = c.as_slice-child-items.result.now in
    let e : cs ≡ children (at nodes n) = c.as_slice-child-items.ensures.value ∙ c.children-children.ensures ∙ ap (λ m. children (at nodes m)) c.from.ensures in
    let l = ((shaped nodes c.args.shaped.shape).keep n c.requires.here).below in
    let b = lower_at n cs c.loop-child.child-index nobody c.loop-child-test.true (subst (λ (xs : List ChildField). lower n xs ≡ true) (sym e) l) in
    (omega arith, (omega arith, omega arith))

pub loop-child-init : goal.loop-child-init
loop-child-init t c = sym (append-nil (string_bytes c.push_tree_line.new.text))

pub loop-child-preserved : goal.loop-child-preserved
loop-child-preserved t c =
    let s = string_bytes c.push_tree_line.new.text in
    then_more s _ _ c.loop-child.invariant c.in_ok-push_tree.ensures
    ∙ ap (λ l. s ++ l) (sym (lines_more c.args.shaped.nodes.now c.args.row c.as_slice-child-items.result.now c.loop-child.child-index nobody c.loop-child-test.true))

pub returns : goal.returns
returns t c =
    let nodes = c.args.shaped.nodes.now in
    let r = c.args.row in
    let s = string_bytes c.args.text.now in
    let cs = c.as_slice-child-items.result.now in
    let e : take c.loop-child.child-index cs ≡ children (at nodes r.node) =
    take_all c.loop-child.child-index cs c.loop-child-test.false ∙ c.as_slice-child-items.ensures.value ∙ c.children-children.ensures ∙ ap (λ m. children (at nodes m)) c.from.ensures in
    then_more s _ _ c.in_ok-push_tree_line.ensures c.loop-child.invariant
    ∙ ap (λ l. s ++ l) (ap (λ (xs : List ChildField). tree_line nodes r ++ lines nodes r xs) e ∙ sym (all_lines nodes r c.args.shaped.shape c.requires.here))
