-- Tallies, raised child by child.
use Rattle.std.proofs.Common.{◌≡◌, ℕ, zero, suc, ◌+◌, ◌<◌, ltb, true, List, [], ◌∷◌, length, get_or, set, take, take_all, drop, replicate, refl, sym, ap, ◌∙◌, subst, add-one, arith}
use Rattle.std.proofs.lemmas.Grind.{common_steps}
use Rattle.std.proofs.lemmas.Bool.{and_parts, ltb-true}
use Rattle.std.proofs.lemmas.Bool.Decides.{nat_tests}
use Rattle.std.proofs.lemmas.List.Recursion.{and_at}
use Rattle.language.specs.declared.kind.Sort.TheVariants.{Command}
use Rattle.language.specs.declared.kind.Rule.TheVariants.{Unused}
use Rattle.language.specs.declared.kind.ChildField.{ChildField}
use Rattle.language.specs.declared.kind.Field.{Field}
use Rattle.language.specs.Fields.{child_in, named}
use Rattle.language.specs.Table.{lower, hit, times}
use Rattle.language.proofs.Fielded.{lower-++, times-++}

pub zeros : (m k : ℕ) → ◌≡◌ {A = ℕ} (get_or (replicate {A = ℕ} m 0) k 0) 0
zeros zero k = refl
zeros (suc m) zero = refl
zeros (suc m) (suc k) = zeros m k

pub raised : (tallies : List ℕ) (j k : ℕ) → j < length tallies → get_or (set tallies j (get_or tallies j 0 + 1)) k 0 ≡ get_or tallies k 0 + hit j k
raised tallies j k l = grind (arith, common_steps, nat_tests)

abbrev pub nothing : Field
nothing = record { rule = Unused; value = 0 }

one_more_field : (k : ℕ) (fs : List Field) (i : ℕ) (d : Field) → i < length fs → times k (named (take (suc i) fs)) ≡ times k (named (take i fs)) + times k (child_in (get_or fs i d).rule (get_or fs i d).value)
one_more_field k [] i d l = absurd (omega arith)
one_more_field k (f ∷ fs) zero d l = omega (arith, times-++ k (child_in f.rule f.value) [])
one_more_field k (f ∷ fs) (suc i) d l =
    let g = child_in f.rule f.value in
    let more : times k (named (take (suc (suc i)) (f ∷ fs))) ≡ times k g + times k (named (take (suc i) fs)) = times-++ k g (named (take (suc i) fs)) in
    let so_far : times k (named (take (suc i) (f ∷ fs))) ≡ times k g + times k (named (take i fs)) = times-++ k g (named (take i fs)) in
    let step : times k (named (take (suc i) fs)) ≡ times k (named (take i fs)) + times k (child_in (get_or (f ∷ fs) (suc i) d).rule (get_or (f ∷ fs) (suc i) d).value) = one_more_field k fs i d (omega arith) in
    omega arith

-- the child of one more field
pub times_more : (k : ℕ) (fs : List Field) (i : ℕ) (d : Field) → i < length fs → times k (named (take (i + 1) fs)) ≡ times k (named (take i fs)) + times k (child_in (get_or fs i d).rule (get_or fs i d).value)
times_more k fs i d l = ap (λ (m : ℕ). times k (named (take m fs))) (add-one i) ∙ one_more_field k fs i d l

-- a field of fields whose children are all lower
pub lower_field : (m : ℕ) (fs : List Field) (i : ℕ) (d : Field) → i < length fs → lower m (named fs) ≡ true → lower m (child_in (get_or fs i d).rule (get_or fs i d).value) ≡ true
lower_field m [] i d l e = absurd (omega arith)
lower_field m (f ∷ fs) zero d l e = (and_parts _ _ (sym (lower-++ m (child_in f.rule f.value) (named fs)) ∙ e)).0
lower_field m (f ∷ fs) (suc i) d l e = lower_field m fs i d (omega arith) (and_parts _ _ (sym (lower-++ m (child_in f.rule f.value) (named fs)) ∙ e)).1

-- its child, if that is one
pub child_lower : (m : ℕ) (c : ChildField) (cs : List ChildField) → c ∷ [] ≡ cs → lower m cs ≡ true → c.number < m
child_lower m c cs e l = ltb-true c.number m (and_parts _ _ (subst (λ (xs : List ChildField). lower m xs ≡ true) (sym e) l)).0

-- the fields behind the tag
pub behind : (fs : List Field) (cs : List ChildField) → length fs ≡ 4 → named (drop 1 fs) ≡ cs → named (take 3 (drop 1 fs)) ≡ cs
behind [] cs l e = absurd (omega arith)
behind (f ∷ fs) cs l e = ap named (take_all 3 fs (omega arith)) ∙ e

abbrev pub nobody : ChildField
nobody = record { wanted = Command; number = 0 }

-- a child of children that are all lower
pub lower_at : (m : ℕ) (cs : List ChildField) (i : ℕ) (d : ChildField) → i < length cs → lower m cs ≡ true → (get_or cs i d).number < m
lower_at m cs i d l e = ltb-true _ m (and_at (lower m) (λ (c : ChildField). ltb c.number m) refl (λ _ _. refl) cs i d l e)
