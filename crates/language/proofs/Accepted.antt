-- A table is accepted exactly when it is well formed.
use Rattle.std.proofs.Common.{◌≡◌, ℕ, ◌%◌, ◌<◌, List, [], length, Ok, arith}
use Rattle.std.proofs.lemmas.Bool.{and_parts, and_from, ltb-true, lt-ltb, leb-true, le-leb, eqb-true, eq-eqb}
use Rattle.vocabulary.specs.declared.refusal.Cause.TheVariants.{TableLength, FieldRule, ChildNotLower, ChildSort, NotOneParent, RootNotCommand}
use Rattle.language.specs.Reading.{tree_of}
use Rattle.language.specs.Table.{nodes_of, fits, root_of}
use Rattle.language.specs.Verdicts.{node_verdict, parent_verdict, table_verdict}
use Rattle.language.specs.WellFormed.{WellFormed}
use Rattle.language.proofs.Naming.{named_c, accepted_c}
use Rattle.language.proofs.Shape.{shaped}
use Rattle.language.proofs.Upward.{passed_all}
use Rattle.language.proofs.Verdicts.{both_accept, accept_both, unless_accepts, accept_unless}

module _ (table : List ℕ) where
  pub well_formed : table_verdict table ≡ Ok tt → WellFormed table
  well_formed e =
      let p = both_accept _ _ e in
      let q = both_accept _ _ p.1 in
      let f = and_parts _ _ (unless_accepts (fits (length table)) TableLength 0 p.0) in
      let g = and_parts _ _ f.0 in
      let s = shaped (nodes_of table) q.0 in
      record {
        some = ltb-true 0 (length table) g.0;
        eights = eqb-true (length table % 8) 0 g.1;
        most = leb-true (length table) 4096 f.1;
        fields = λ n l. (s.keep n l).fields;
        below = λ n l. (s.keep n l).below;
        sorts = λ n l. (s.keep n l).sorts;
        once = s.once;
        root = s.root;
        names = named_c (tree_of (nodes_of table)) [] q.1;
      }

  pub accepted : WellFormed table → table_verdict table ≡ Ok tt
  accepted w =
      let nodes = nodes_of table in
      accept_both (accept_unless (fits (length table)) TableLength 0 (and_from _ _ (and_from _ _ (lt-ltb 0 (length table) w.some) (eq-eqb (length table % 8) 0 w.eights)) (le-leb (length table) 4096 w.most)))
      (accept_both
      (accept_both (passed_all (node_verdict nodes) (length nodes) 0 (λ n l u. node n (omega arith)))
      (accept_both (passed_all (parent_verdict nodes) (root_of nodes) 0 (λ n l u. accept_unless _ NotOneParent n (eq-eqb _ 1 (w.once n (omega arith)))))
      (accept_unless _ RootNotCommand (root_of nodes) w.root)))
      (accepted_c (tree_of nodes) [] w.names))
    where
      node : (n : ℕ) → n < length (nodes_of table) → node_verdict (nodes_of table) n ≡ Ok tt
      node n l = accept_both (accept_unless _ FieldRule n (w.fields n l)) (accept_both (accept_unless _ ChildNotLower n (w.below n l)) (accept_unless _ ChildSort n (w.sorts n l)))
