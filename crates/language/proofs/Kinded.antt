-- A kind that was decoded, and what follows for a node of it.
use Rattle.std.proofs.Common.{◌≡◌, ℕ, ◌+◌, true, false, [], Some, None, Option, refl, ap, ⊎_elim, arith}
use Rattle.std.specs.List.{flat_map, list_all}
use Rattle.std.proofs.lemmas.Bool.{cases_Bool, and_parts, leb-true}
use Rattle.vocabulary.specs.declared.node.Node.{Node}
use Rattle.language.specs.declared.kind.Fields.{Fields}
use Rattle.language.specs.declared.kind.Sort.{Sort}
use Rattle.language.specs.declared.kind.Sort.TheVariants.{Command, Declaration, Expression}
use Rattle.language.specs.Fields.{within, is_of, fields_of, admits, admits_all, formed, rest_in, fields_in, child_in, children_by, children}
use Rattle.language.proofs.ByKind.{Each, pick}

-- no kind has the number: no sort has it either
no : {f : Fields} → Some f ≡ None → ⊥
no e = cc

outside : (low high m n : ℕ) → Each (λ k. fields_of k ≡ None → ⊥) low m → high + 1 ≡ low + m → fields_of n ≡ None → within low high n ≡ false
outside low high m n each l e =
    ⊎_elim
    (λ (t : within low high n ≡ true).
    let p = and_parts _ _ t in
    absurd (pick (λ k. fields_of k ≡ None → ⊥) m low n each (leb-true low n p.0) (omega (arith, leb-true n high p.1)) e))
    (λ (t : within low high n ≡ false). t) (cases_Bool (within low high n))

pub no_sort : (s : Sort) (n : ℕ) → fields_of n ≡ None → is_of s n ≡ false
unfolding fields_of
no_sort Command n e = outside 1 7 7 n (no, (no, (no, (no, (no, (no, (no, tt))))))) refl e
no_sort Declaration n e = outside 10 14 5 n (no, (no, (no, (no, (no, tt))))) refl e
no_sort Expression n e = outside 20 26 7 n (no, (no, (no, (no, (no, (no, (no, tt))))))) refl e

module _ (d : Node) where
  pub children_none : fields_of d.kind ≡ None → children d ≡ []
  unfolding children
  children_none e = ap (λ (o : Option Fields). children_by o d) e

  pub formed_none : fields_of d.kind ≡ None → formed d ≡ false
  unfolding formed
  formed_none e = ap (λ (o : Option Fields). admits_all o d) e

  module _ (f : Fields) (e : fields_of d.kind ≡ Some f) where
    pub children_some : children d ≡ flat_map (λ r. child_in r.rule r.value) (rest_in f d)
    unfolding children
    children_some = ap (λ (o : Option Fields). children_by o d) e

    pub formed_some : formed d ≡ list_all (λ r. admits r.rule r.value) (fields_in f d)
    unfolding formed
    formed_some = ap (λ (o : Option Fields). admits_all o d) e
