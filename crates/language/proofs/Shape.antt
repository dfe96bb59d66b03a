-- What an accepted shape says of the nodes.
use Rattle.std.proofs.Common.{◌≡◌, ℕ, ◌<◌, ◌≤◌, true, List, length, Ok, subst, arith}
use Rattle.std.proofs.lemmas.Bool.{eqb-true}
use Rattle.std.proofs.lemmas.Bool.Decides.{nat_tests}
use Rattle.vocabulary.specs.declared.node.Node.{Node}
use Rattle.vocabulary.specs.declared.refusal.Cause.TheVariants.{FieldRule, ChildNotLower, ChildSort, NotOneParent}
use Rattle.language.specs.declared.kind.Sort.TheVariants.{Command}
use Rattle.language.specs.Fields.{fields_of, formed, children, is_of}
use Rattle.language.specs.Reading.{form_e, form_c, form_d}
use Rattle.language.specs.Sound.{Sound}
use Rattle.language.specs.Table.{at, lower, fitting, times, children_in, root_of}
use Rattle.language.specs.Verdicts.{node_verdict, parent_verdict, upward, shape_verdict}
use Rattle.language.proofs.ByKind.{pick, with_kind, known, held, children_e, children_c, children_d, sound_e, sound_c, sound_d, Held}
use Rattle.language.proofs.Upward.{all_passed}
use Rattle.language.proofs.Verdicts.{both_accept, unless_accepts}

-- a node by itself
pub record Keeps (nodes : List Node) (n : ℕ) : Type 0 where
  pub fields : formed (at nodes n) ≡ true
  pub below : lower n (children (at nodes n)) ≡ true
  pub sorts : fitting nodes (children (at nodes n)) ≡ true

pub node-keeps : (nodes : List Node) (n : ℕ) → node_verdict nodes n ≡ Ok tt → Keeps nodes n
node-keeps nodes n e =
    let p = both_accept _ _ e in
    let q = both_accept _ _ p.1 in
    record { fields = unless_accepts _ FieldRule n p.0; below = unless_accepts _ ChildNotLower n q.0; sorts = unless_accepts _ ChildSort n q.1 }

pub nodes-keep : (nodes : List Node) → upward (node_verdict nodes) (length nodes) 0 ≡ Ok tt → (n : ℕ) → n < length nodes → Keeps nodes n
nodes-keep nodes e n l = node-keeps nodes n (all_passed (node_verdict nodes) (length nodes) 0 n e (omega arith) (omega arith))

-- the ranges of single kinds
module _ (d : Node) (f : formed d ≡ true) where
  truth_range : d.kind ≡ 21 → d.tag ≤ 1
  unfolding formed fields_of
  truth_range e = pick (λ k. formed (with_kind d k) ≡ true → d.tag ≤ 1) 1 21 d.kind ((λ g. grind (arith, nat_tests)), tt) (omega arith) (omega arith) f

  operator_range : d.kind ≡ 24 → (1 ≤ d.tag) × (d.tag ≤ 6)
  unfolding formed fields_of
  operator_range e =
      pick (λ k. formed (with_kind d k) ≡ true → (1 ≤ d.tag) × (d.tag ≤ 6)) 1 24 d.kind
      ((λ g. (grind (arith, nat_tests), grind (arith, nat_tests))), tt) (omega arith) (omega arith) f

  parameter_range : 12 ≤ d.kind → d.kind ≤ 13 → d.c < 256
  unfolding formed fields_of
  parameter_range lo hi =
      pick (λ k. formed (with_kind d k) ≡ true → d.c < 256) 2 12 d.kind
      ((λ g. grind (arith, nat_tests)), ((λ g. grind (arith, nat_tests)), tt)) lo (omega arith) f

pub sound_from : (nodes : List Node) → ((n : ℕ) → n < length nodes → Keeps nodes n) → Sound nodes
sound_from nodes keep = record {
  sorts = λ n l. known (at nodes n) (keep n l).fields;
  expressions = λ n l i. sound_e nodes n (form_e (at nodes n)) (subst (Held nodes n) (children_e (at nodes n) i.0 i.1) (hold n l));
  commands = λ n l i. sound_c nodes n (form_c (at nodes n)) (subst (Held nodes n) (children_c (at nodes n) i.0 i.1) (hold n l));
  declarations = λ n l i. sound_d nodes n (form_d (at nodes n)) (subst (Held nodes n) (children_d (at nodes n) i.0 i.1) (hold n l));
  truths = λ n l e. truth_range (at nodes n) (keep n l).fields e;
  operators = λ n l e. operator_range (at nodes n) (keep n l).fields e;
  parameters = λ n l lo hi. parameter_range (at nodes n) (keep n l).fields lo hi;
}
  where
    hold : (n : ℕ) → n < length nodes → Held nodes n (children (at nodes n))
    hold n l = held nodes n (children (at nodes n)) (keep n l).below (keep n l).sorts

-- the whole shape
pub record Shaped (nodes : List Node) : Type 0 where
  pub keep : (n : ℕ) → n < length nodes → Keeps nodes n
  pub once : (n : ℕ) → n < root_of nodes → times n (children_in nodes (length nodes)) ≡ 1
  pub root : is_of Command (at nodes (root_of nodes)).kind ≡ true

pub shaped : (nodes : List Node) → shape_verdict nodes ≡ Ok tt → Shaped nodes
shaped nodes e =
    let p = both_accept _ _ e in
    let q = both_accept _ _ p.1 in
    record {
      keep = nodes-keep nodes p.0;
      once = λ n l. eqb-true _ 1 (unless_accepts _ NotOneParent n (all_passed (parent_verdict nodes) (root_of nodes) 0 n q.0 (omega arith) (omega arith)));
      root = unless_accepts _ _ _ q.1;
    }

pub sound : (nodes : List Node) → shape_verdict nodes ≡ Ok tt → Sound nodes
sound nodes e = sound_from nodes (shaped nodes e).keep
