-- What is asked of the fields of a node, field by field.
use Rattle.std.proofs.Common.{◌≡◌, ℕ, zero, suc, ◌+◌, ◌≤◌, Bool, true, ◌&&◌, ltb, List, [], ◌∷◌, ◌++◌, Some, None, Option, sym, refl, ap, ◌∙◌, add-one, arith}
use Rattle.std.specs.List.{list_all}
use Rattle.std.proofs.lemmas.Bool.{and_from, and_parts, ltb-true, lt-ltb}
use Rattle.std.proofs.lemmas.List.Folds.{list_all-append}
use Rattle.std.proofs.lemmas.Bool.Decides.{nat_tests}
use Rattle.vocabulary.specs.declared.node.Node.{Node}
use Rattle.language.specs.declared.kind.ChildField.{ChildField}
use Rattle.language.specs.declared.kind.Field.{Field}
use Rattle.language.specs.declared.kind.Fields.{Fields}
use Rattle.language.specs.declared.kind.Rule.{Rule}
use Rattle.language.specs.declared.kind.Rule.TheVariants.{Unused, Name, Truth, Operator, Half, Child}
use Rattle.language.specs.Fields.{child_in, children_by, field, fields_of, named, children}
use Rattle.language.specs.Table.{at, lower, hit, times, children_in}

-- a test of each child that the fields name, field by field
pub all_named : (p : ChildField → Bool) (fs : List Field) → list_all (λ (f : Field). list_all p (child_in f.rule f.value)) fs ≡ list_all p (named fs)
all_named p [] = refl
all_named p (f ∷ fs) = ap (λ (b : Bool). list_all p (child_in f.rule f.value) && b) (all_named p fs) ∙ sym (list_all-append p (child_in f.rule f.value) (named fs))

pub lower-++ : (m : ℕ) (xs ys : List ChildField) → lower m (xs ++ ys) ≡ (lower m xs && lower m ys)
lower-++ m xs ys = list_all-append (λ c. ltb c.number m) xs ys

pub lower_more : (m k : ℕ) (cs : List ChildField) → m ≤ k → lower m cs ≡ true → lower k cs ≡ true
lower_more m k [] h l = refl
lower_more m k (c ∷ cs) h l =
    let p = and_parts _ _ l in
    let q = ltb-true c.number m p.0 in
    and_from _ _ (lt-ltb c.number k (omega arith)) (lower_more m k cs h p.1)

-- how often a number stands among children, field by field
pub times-++ : (k : ℕ) (xs ys : List ChildField) → times k (xs ++ ys) ≡ times k xs + times k ys
times-++ k [] ys = omega arith
times-++ k (x ∷ xs) ys = let h = times-++ k xs ys in omega arith

pub hit_few : (j k : ℕ) → hit j k ≤ 1
hit_few j k = grind (arith, nat_tests)

pub one_more_node : (nodes : List Node) (m k : ℕ) → times k (children_in nodes (m + 1)) ≡ times k (children_in nodes m) + times k (children (at nodes m))
unfolding children_in
one_more_node nodes m k = ap (λ (i : ℕ). times k (children_in nodes i)) (add-one m) ∙ times-++ k (children_in nodes m) (children (at nodes m))

field-few : (k : ℕ) (r : Rule) (v : ℕ) → times k (child_in r v) ≤ 1
field-few k Unused v = omega arith
field-few k Name v = omega arith
field-few k Truth v = omega arith
field-few k Operator v = omega arith
field-few k Half v = omega arith
field-few k (Child s) v = omega (arith, hit_few v k)

few_held : (k : ℕ) (o : Option Fields) (d : Node) → times k (children_by o d) ≤ 3
few_held k None d = omega arith
few_held k (Some f) d =
    let p = times-++ k (child_in f.a d.a) (named (field f.b d.b ∷ field f.c d.c ∷ [])) in
    let q = times-++ k (child_in f.b d.b) (named (field f.c d.c ∷ [])) in
    let r = times-++ k (child_in f.c d.c) [] in
    omega (arith, field-few k f.a d.a, field-few k f.b d.b, field-few k f.c d.c)

-- a node has three children at most
pub few-children : (nodes : List Node) (m k : ℕ) → times k (children_in nodes m) ≤ m + m + m
unfolding children_in children
few-children nodes zero k = omega arith
few-children nodes (suc m) k =
    let h = few-children nodes m k in
    let g = few_held k (fields_of (at nodes m).kind) (at nodes m) in
    let e = times-++ k (children_in nodes m) (children (at nodes m)) in
    omega arith
