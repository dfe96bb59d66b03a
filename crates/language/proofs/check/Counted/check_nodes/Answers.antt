use Rattle.std.proofs.Common.{◌≡◌, ◌<◌, ℕ, ltb, true, List, [], ◌∷◌, Ok, length, get_or, take, drop, refl, sym, ap, subst, ◌∙◌, take_all, length-set, length-take, arith, rules}
use Rattle.std.proofs.lemmas.Result.{err_from_is_err_and}
use borrow.Author.Count.{below_more}
use Rattle.vocabulary.specs.declared.node.Node.{Node}
use Rattle.language.specs.declared.kind.ChildField.{ChildField}
use Rattle.language.specs.declared.kind.Field.{Field}
use Rattle.language.specs.Fields.{children, child_in, is_of, named}
use Rattle.language.specs.Table.{at, hit, times, lower, fitting, children_in}
use Rattle.language.specs.Verdicts.{node_verdict}
use Rattle.language.proofs.Fielded.{all_named, one_more_node, hit_few}
use Rattle.language.proofs.Shape.{node-keeps}
use Rattle.language.proofs.Tallying.{zeros, raised, times_more, lower_field, child_lower, nothing, behind}
use Rattle.language.proofs.Upward.{passed_all, stopped}
use Rattle.language.proofs.check.Counted.check_nodes.Goals as goal
use Rattle.language.proofs.check.Counted.check_nodes.Goals.{in-Some, in_default}

pub loop-n-init : goal.loop-n-init
unfolding children_in
loop-n-init c = ((λ n l. absurd (omega arith)), refl, (λ k. omega (arith, zeros 512 k)), λ k. zeros 512 k)

pub returns-in_err-check_node-clause-refused : goal.returns-in_err-check_node-clause-refused
returns-in_err-check_node-clause-refused c =
    let nodes = c.args.self.nodes.now in
    let p = err_from_is_err_and c.from_residual.result c.from_residual.ensures.1 in
    rw (p.1, p.2) (stopped (node_verdict nodes) (length nodes) 0 c.loop-n.n (omega arith) (omega arith) (λ n _ l. c.loop-n.invariant.0 n l) (sym c.in_err-check_node.ensures))

-- each child is lower than its node, so there is a tally for it
module _ (nodes : List Node) (n : ℕ) (fields : List Field) (four : length fields ≡ 4) (are : named (drop 1 fields) ≡ children (at nodes n)) (passed : node_verdict nodes n ≡ Ok tt) (j : ℕ) (l : j < length (take 3 (drop 1 fields))) where
  is_below : (c : ChildField) → c ∷ [] ≡ child_in (get_or (take 3 (drop 1 fields)) j nothing).rule (get_or (take 3 (drop 1 fields)) j nothing).value → c.number < n
  is_below c e =
      let all = subst (λ (xs : List ChildField). lower n xs ≡ true) (sym (behind fields (children (at nodes n)) four are)) (node-keeps nodes n passed).below in
      child_lower n c _ e (lower_field n (take 3 (drop 1 fields)) j nothing l all)

pub check_node-requires-clause-lower : goal.check_node-requires-clause-lower
check_node-requires-clause-lower c =
    let n = c.loop-n.n in
    all_named (λ (x : ChildField). ltb x.number n) (drop 1 c.fields_of-fields.result) ∙ ap (lower n) c.fields_of-fields.ensures.children

pub check_node-requires-clause-fitting : goal.check_node-requires-clause-fitting
check_node-requires-clause-fitting c =
    let nodes = c.args.self.nodes.now in
    all_named (λ (x : ChildField). is_of x.wanted (at nodes x.number).kind) (drop 1 c.fields_of-fields.result) ∙ ap (fitting nodes) c.fields_of-fields.ensures.children

pub bounds-tallies-from : goal.bounds-tallies-from
bounds-tallies-from c =
    let four : length c.fields_of-fields.result ≡ 4 = search rules in
    let b = is_below c.args.self.nodes.now c.loop-n.n c.fields_of-fields.result four c.fields_of-fields.ensures.children (sym c.in_ok-check_node.ensures) c.loop-field.field-index c.loop-field-test.true c.in-Some.child c.in-Some.ensures in
    let few = c.args.self.few in
    omega (arith, c.from.ensures)

pub bounds-tallies-from-in-Some : goal.bounds-tallies-from-in-Some
bounds-tallies-from-in-Some c =
    let four : length c.fields_of-fields.result ≡ 4 = search rules in
    let b = is_below c.args.self.nodes.now c.loop-n.n c.fields_of-fields.result four c.fields_of-fields.ensures.children (sym c.in_ok-check_node.ensures) c.loop-field.field-index c.loop-field-test.true c.in-Some.child c.in-Some.ensures in
    let few = c.args.self.few in
    omega (arith, c.from.ensures)

pub loop-field-preserved : goal.loop-field-preserved
loop-field-preserved c =
    let fields = take 3 (drop 1 c.fields_of-fields.result) in
    let j = c.loop-field.field-index in
    let l : length c.loop-field.tallies ≡ 512 = c.loop-field.invariant.0 in
    let t = λ (k : ℕ). times_more k fields j nothing c.loop-field-test.true in
    let four : length c.fields_of-fields.result ≡ 4 = search rules in
    elim c.match-child.branch [
      | in-Some w ↦
          let i = w.from.result in
          let b = is_below c.args.self.nodes.now c.loop-n.n c.fields_of-fields.result four c.fields_of-fields.ensures.children (sym c.in_ok-check_node.ensures) j c.loop-field-test.true w.in-Some.child w.in-Some.ensures in
          let few = c.args.self.few in
          let inside : i < length c.loop-field.tallies = omega (arith, w.from.ensures) in
          let r = λ (k : ℕ). raised c.loop-field.tallies i k inside in
          rw w.tallies-is (
            omega (arith, length-set {A = ℕ}),
            (λ k. omega (arith, r k, hit_few i k, c.loop-field.invariant.1 k)),
            λ k.
                let h = ap (times k) w.in-Some.ensures in
                let m = ap (λ m. hit m k) w.from.ensures in
                omega (arith, r k, t k, h, m, c.loop-field.invariant.2 k),
          )
      | in_default w ↦
          rw w.tallies-is (
            l,
            (λ k. omega (arith, c.loop-field.invariant.1 k)),
            λ k. let h = ap (times k) w.in_default.ensures in omega (arith, t k, h, c.loop-field.invariant.2 k),
          )
    ]

pub loop-n-preserved : goal.loop-n-preserved
loop-n-preserved c =
    let nodes = c.args.self.nodes.now in
    let n = c.loop-n.n in
    let fields = c.fields_of-fields.result in
    let four : length fields ≡ 4 = search rules in
    let rest = take 3 (drop 1 fields) in
    let j = c.loop-field.field-index in (
      below_more (λ m. node_verdict nodes m ≡ Ok tt) n c.loop-n.invariant.0 (sym c.in_ok-check_node.ensures),
      c.loop-field.invariant.0,
      (λ k. omega (arith, length-take {A = Field}, c.loop-field.invariant.1 k)),
      λ k.
          let t : times k (named (take j rest)) ≡ times k (children (at nodes n)) = ap (λ (fs : List Field). times k (named fs)) (take_all j rest c.loop-field-test.false) ∙ ap (times k) (behind fields (children (at nodes n)) four c.fields_of-fields.ensures.children) in
          omega (arith, one_more_node nodes n k, c.loop-field.invariant.2 k),
    )

pub returns-clause-passed : goal.returns-clause-passed
returns-clause-passed c =
    let nodes = c.args.self.nodes.now in
    let all : c.loop-n.n ≡ length nodes = omega arith in
    (passed_all (node_verdict nodes) (length nodes) 0 (λ n _ l. c.loop-n.invariant.0 n (omega arith)), λ k. c.loop-n.invariant.3 k ∙ ap (λ m. times k (children_in nodes m)) all)
