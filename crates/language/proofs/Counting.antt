-- Double counting: where the size of a node is its weight with the sizes of its children, and each number below r is a child
-- exactly once, the sizes of the children of all nodes are the sizes of the nodes below r, so the size at r is the weight of all nodes.
use Rattle.std.proofs.Common.{◌≡◌, ℕ, zero, suc, ◌+◌, ◌*◌, ◌<◌, true, List, [], ◌∷◌, ◌++◌, sym, refl, ap, ◌∙◌, subst, ⊎_elim, add-mul, one-mul, zero-mul, mul-one, arith}
use Rattle.std.proofs.lemmas.Bool.{cases_eq, eq-eqb, ne_eqb, and_parts, ltb-true}
use Rattle.language.specs.declared.kind.ChildField.{ChildField}
use Rattle.language.specs.Table.{hit, times, lower}

abbrev pub sum_to : ℕ → (ℕ → ℕ) → ℕ
sum_to zero f = 0
sum_to (suc m) f = sum_to m f + f m

abbrev pub sum_of : (ℕ → ℕ) → List ChildField → ℕ
sum_of f [] = 0
sum_of f (c ∷ cs) = f c.number + sum_of f cs

sum_of-++ : (f : ℕ → ℕ) (xs ys : List ChildField) → sum_of f (xs ++ ys) ≡ sum_of f xs + sum_of f ys
sum_of-++ f [] ys = omega arith
sum_of-++ f (x ∷ xs) ys = let h = sum_of-++ f xs ys in omega arith

sum_to_add : (m : ℕ) (f g : ℕ → ℕ) → sum_to m (λ k. f k + g k) ≡ sum_to m f + sum_to m g
sum_to_add zero f g = refl
sum_to_add (suc m) f g = let h = sum_to_add m f g in omega arith

sum_to_same : (m : ℕ) (f g : ℕ → ℕ) → ((k : ℕ) → k < m → f k ≡ g k) → sum_to m f ≡ sum_to m g
sum_to_same zero f g e = refl
sum_to_same (suc m) f g e = let h = sum_to_same m f g (λ k l. e k (omega arith)) in let i = e m (omega arith) in omega arith

sum_to_none : (m : ℕ) (f : ℕ → ℕ) → ((k : ℕ) → k < m → f k ≡ 0) → sum_to m f ≡ 0
sum_to_none zero f e = refl
sum_to_none (suc m) f e = let h = sum_to_none m f (λ k l. e k (omega arith)) in let i = e m (omega arith) in omega arith

hit_same : (f : ℕ → ℕ) (j : ℕ) → hit j j * f j ≡ f j
hit_same f j = simp (eq-eqb j j refl) (one-mul (f j))

hit_other : (f : ℕ → ℕ) (j k : ℕ) → (j ≡ k → ⊥) → hit j k * f k ≡ 0
hit_other f j k n = simp (ne_eqb j k n) (zero-mul (f k))

sum_to-hit : (m : ℕ) (f : ℕ → ℕ) (j : ℕ) → j < m → sum_to m (λ k. hit j k * f k) ≡ f j
sum_to-hit zero f j l = absurd (omega arith)
sum_to-hit (suc m) f j l =
    ⊎_elim
    (λ (e : j ≡ m).
    let a : sum_to m (λ k. hit j k * f k) ≡ 0 = sum_to_none m (λ k. hit j k * f k) (λ k u. hit_other f j k (λ q. omega arith)) in
    let b : hit j m * f m ≡ f j = subst (λ (i : ℕ). hit j i * f i ≡ f j) e (hit_same f j) in
    omega arith)
    (λ (e : j ≡ m → ⊥).
    let a : sum_to m (λ k. hit j k * f k) ≡ f j = sum_to-hit m f j (omega arith) in
    let b : hit j m * f m ≡ 0 = hit_other f j m e in
    omega arith)
    (cases_eq j m)

weigh : (m : ℕ) (f : ℕ → ℕ) (cs : List ChildField) → lower m cs ≡ true → sum_of f cs ≡ sum_to m (λ k. times k cs * f k)
weigh m f [] h = sym (sum_to_none m (λ k. 0 * f k) (λ k l. zero-mul (f k)))
weigh m f (x ∷ cs) h =
    let p = and_parts _ _ h in
    let j = x.number in
    let a : sum_to m (λ k. hit j k * f k) ≡ f j = sum_to-hit m f j (ltb-true j m p.0) in
    let b : sum_of f cs ≡ sum_to m (λ k. times k cs * f k) = weigh m f cs p.1 in
    let c : sum_to m (λ k. (hit j k + times k cs) * f k) ≡ sum_to m (λ k. hit j k * f k + times k cs * f k) =
    sum_to_same m (λ k. (hit j k + times k cs) * f k) (λ k. hit j k * f k + times k cs * f k) (λ k l. add-mul (hit j k) (times k cs) (f k)) in
    let d : sum_to m (λ k. hit j k * f k + times k cs * f k) ≡ sum_to m (λ k. hit j k * f k) + sum_to m (λ k. times k cs * f k) = sum_to_add m (λ k. hit j k * f k) (λ k. times k cs * f k) in
    omega arith

once : (m : ℕ) (f : ℕ → ℕ) (cs : List ChildField) → lower m cs ≡ true → ((k : ℕ) → k < m → times k cs ≡ 1) → sum_of f cs ≡ sum_to m f
once m f cs h e = weigh m f cs h ∙ sum_to_same m (λ k. times k cs * f k) f (λ k l. ap (λ (i : ℕ). i * f k) (e k l) ∙ one-mul (f k))

pub sum_to_ones : (m : ℕ) → sum_to m (λ _. 1) ≡ m
sum_to_ones zero = refl
sum_to_ones (suc m) = let h = sum_to_ones m in omega arith

pub sum_to-found : (m j : ℕ) → j < m → sum_to m (hit j) ≡ 1
sum_to-found m j l = sum_to_same m (hit j) (λ k. hit j k * 1) (λ k u. sym (mul-one (hit j k))) ∙ sum_to-hit m (λ _. 1) j l

-- over the children of each node, and of the first nodes
module _ (held_at : ℕ → List ChildField) (all : ℕ → List ChildField) (none : all 0 ≡ []) (more : (m : ℕ) → all (suc m) ≡ all m ++ held_at m) (weight size : ℕ → ℕ) where
  total : (m : ℕ) → ((n : ℕ) → n < m → size n ≡ weight n + sum_of size (held_at n)) → sum_to m size ≡ sum_to m weight + sum_of size (all m)
  total zero h = let q : sum_of size (all 0) ≡ 0 = ap (sum_of size) none in omega arith
  total (suc m) h =
      let a = total m (λ n l. h n (omega arith)) in
      let b = h m (omega arith) in
      let c : sum_of size (all (suc m)) ≡ sum_of size (all m) + sum_of size (held_at m) = ap (sum_of size) (more m) ∙ sum_of-++ size (all m) (held_at m) in
      omega arith

  pub whole : (r : ℕ) → ((n : ℕ) → n < suc r → size n ≡ weight n + sum_of size (held_at n)) → lower r (all (suc r)) ≡ true → ((k : ℕ) → k < r → times k (all (suc r)) ≡ 1) → size r ≡ sum_to (suc r) weight
  whole r h b e =
      let a = total (suc r) h in
      let c = once r size (all (suc r)) b e in
      omega arith
