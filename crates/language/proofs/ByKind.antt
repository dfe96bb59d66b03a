-- What a node says by its kind: the children of a form, and that they are those of the node.
use Rattle.std.proofs.Common.{◌≡◌, ℕ, zero, suc, ◌+◌, ◌<◌, ◌≤◌, true, false, ◌⊎◌, List, [], ◌∷◌, refl, subst, inl, inr, ⊎_elim, arith}
use Rattle.std.proofs.lemmas.Bool.{cases_eq, cases_lt, cases_Bool, and_parts, ltb-true}
use Rattle.std.proofs.lemmas.Bool.Decides.{nat_tests}
use Rattle.vocabulary.specs.declared.node.Node.{Node}
use Rattle.language.specs.declared.kind.Sort.{Sort}
use Rattle.language.specs.declared.kind.Sort.TheVariants.{Command, Declaration, Expression}
use Rattle.language.specs.declared.kind.ChildField.{ChildField}
use Rattle.language.specs.Fields.{is_of, fields_of, formed, children}
use Rattle.language.specs.Reading.{FormE, FormC, FormD, form_e, form_c, form_d}
use Rattle.language.specs.Reading.FormE.{number_f, truth_f, read_f, name_f, operation_f, function_call_f, choice_f}
use Rattle.language.specs.Reading.FormC.{assign_f, output_f, when_f, while_f, block_f, sequence_f, procedure_call_f}
use Rattle.language.specs.Reading.FormD.{constant_f, variable_f, procedure_f, function_f, pair_f}
use Rattle.language.specs.Sound.{IsE, IsC, IsD, SoundE, SoundC, SoundD}
use Rattle.language.specs.Table.{at, lower, fitting}

-- a fact of m numbers from low on, one by one
abbrev pub Each : (ℕ → Type 0) → ℕ → ℕ → Type 0
Each P low zero = Unit {0}
Each P low (suc m) = P low × Each P (low + 1) m

pub pick : (P : ℕ → Type 0) (m low k : ℕ) → Each P low m → low ≤ k → k < low + m → P k
pick P zero low k e l u = absurd (omega arith)
pick P (suc m) low k e l u =
    ⊎_elim (λ (q : low ≡ k). subst P q e.0) (λ (q : low ≡ k → ⊥). pick P m (low + 1) k e.1 (omega arith) (omega arith)) (cases_eq low k)

-- the same fields under another kind
abbrev pub with_kind : Node → ℕ → Node
with_kind d k = record { kind = k; tag = d.tag; a = d.a; b = d.b; c = d.c }

abbrev child : Sort → ℕ → ChildField
child s v = record { wanted = s; number = v }

-- the children of a form
abbrev pub held_e : FormE → List ChildField
held_e (number_f z) = []
held_e (truth_f t) = []
held_e read_f = []
held_e (name_f x) = []
held_e (operation_f o a b) = child Expression a ∷ child Expression b ∷ []
held_e (function_call_f f a) = child Expression a ∷ []
held_e (choice_f a b c) = child Expression a ∷ child Expression b ∷ child Expression c ∷ []

abbrev pub held_c : FormC → List ChildField
held_c (assign_f a b) = child Expression a ∷ child Expression b ∷ []
held_c (output_f a) = child Expression a ∷ []
held_c (when_f a b c) = child Expression a ∷ child Command b ∷ child Command c ∷ []
held_c (while_f a b) = child Expression a ∷ child Command b ∷ []
held_c (block_f a b) = child Declaration a ∷ child Command b ∷ []
held_c (sequence_f a b) = child Command a ∷ child Command b ∷ []
held_c (procedure_call_f f a) = child Expression a ∷ []

abbrev pub held_d : FormD → List ChildField
held_d (constant_f x a) = child Expression a ∷ []
held_d (variable_f x a) = child Expression a ∷ []
held_d (procedure_f x a y) = child Command a ∷ []
held_d (function_f x a y) = child Expression a ∷ []
held_d (pair_f a b) = child Declaration a ∷ child Declaration b ∷ []

-- the children of a node are those of its form
module _ (d : Node) where
  pub children_e : 20 ≤ d.kind → d.kind ≤ 26 → children d ≡ held_e (form_e d)
  unfolding children fields_of form_e
  children_e lo hi =
      pick (λ k. children (with_kind d k) ≡ held_e (form_e (with_kind d k))) 7 20 d.kind
      (refl, (refl, (refl, (refl, (refl, (refl, (refl, tt))))))) lo (omega arith)

  pub children_c : 1 ≤ d.kind → d.kind ≤ 7 → children d ≡ held_c (form_c d)
  unfolding children fields_of form_c
  children_c lo hi =
      pick (λ k. children (with_kind d k) ≡ held_c (form_c (with_kind d k))) 7 1 d.kind
      (refl, (refl, (refl, (refl, (refl, (refl, (refl, tt))))))) lo (omega arith)

  pub children_d : 10 ≤ d.kind → d.kind ≤ 14 → children d ≡ held_d (form_d d)
  unfolding children fields_of form_d
  children_d lo hi =
      pick (λ k. children (with_kind d k) ≡ held_d (form_d (with_kind d k))) 5 10 d.kind
      (refl, (refl, (refl, (refl, (refl, tt))))) lo (omega arith)

-- children that are lower than n and of their sorts
abbrev pub Is : Sort → List Node → ℕ → Type 0
Is Command nodes n = IsC nodes n
Is Declaration nodes n = IsD nodes n
Is Expression nodes n = IsE nodes n

abbrev pub Held : List Node → ℕ → List ChildField → Type 0
Held nodes n [] = Unit {0}
Held nodes n (c ∷ cs) = ((c.number < n) × Is c.wanted nodes c.number) × Held nodes n cs

pub is_from : (s : Sort) (nodes : List Node) (n : ℕ) → is_of s (at nodes n).kind ≡ true → Is s nodes n
is_from Command nodes n e = (grind (arith, nat_tests), grind (arith, nat_tests))
is_from Declaration nodes n e = (grind (arith, nat_tests), grind (arith, nat_tests))
is_from Expression nodes n e = (grind (arith, nat_tests), grind (arith, nat_tests))

pub held : (nodes : List Node) (n : ℕ) (cs : List ChildField) → lower n cs ≡ true → fitting nodes cs ≡ true → Held nodes n cs
held nodes n [] l f = tt
held nodes n (c ∷ cs) l f =
    let p = and_parts _ _ l in
    let q = and_parts _ _ f in
    ((ltb-true c.number n p.0, is_from c.wanted nodes c.number q.0), held nodes n cs p.1 q.1)

module _ (nodes : List Node) (n : ℕ) where
  pub sound_e : (F : FormE) → Held nodes n (held_e F) → SoundE nodes n F
  sound_e (number_f z) h = tt
  sound_e (truth_f t) h = tt
  sound_e read_f h = tt
  sound_e (name_f x) h = tt
  sound_e (operation_f o a b) h = (h.0, h.1.0)
  sound_e (function_call_f f a) h = h.0
  sound_e (choice_f a b c) h = (h.0, h.1.0, h.1.1.0)

  pub sound_c : (F : FormC) → Held nodes n (held_c F) → SoundC nodes n F
  sound_c (assign_f a b) h = (h.0, h.1.0)
  sound_c (output_f a) h = h.0
  sound_c (when_f a b c) h = (h.0, h.1.0, h.1.1.0)
  sound_c (while_f a b) h = (h.0, h.1.0)
  sound_c (block_f a b) h = (h.0, h.1.0)
  sound_c (sequence_f a b) h = (h.0, h.1.0)
  sound_c (procedure_call_f f a) h = h.0

  pub sound_d : (F : FormD) → Held nodes n (held_d F) → SoundD nodes n F
  sound_d (constant_f x a) h = h.0
  sound_d (variable_f x a) h = h.0
  sound_d (procedure_f x a y) h = h.0
  sound_d (function_f x a y) h = h.0
  sound_d (pair_f a b) h = (h.0, h.1.0)

-- a formed node is of a sort
pub known : (d : Node) → formed d ≡ true → ((20 ≤ d.kind) × (d.kind ≤ 26)) ⊎ (((1 ≤ d.kind) × (d.kind ≤ 7)) ⊎ ((10 ≤ d.kind) × (d.kind ≤ 14)))
unfolding formed fields_of
known d f =
    ⊎_elim (λ (a : d.kind < 8). inr (inl (grind (arith, nat_tests), omega arith)))
    (λ (a : 8 ≤ d.kind). ⊎_elim (λ (b : d.kind < 15). inr (inr (grind (arith, nat_tests), omega arith))) (λ (b : 15 ≤ d.kind). inl (grind (arith, nat_tests), grind (arith, nat_tests))) (cases_lt d.kind 15))
    (cases_lt d.kind 8)

pub unknown : (d : Node) → ((20 ≤ d.kind) × (d.kind ≤ 26) → ⊥) → ((1 ≤ d.kind) × (d.kind ≤ 7) → ⊥) → ((10 ≤ d.kind) × (d.kind ≤ 14) → ⊥) → formed d ≡ false
unknown d e c f = ⊎_elim (λ (t : formed d ≡ true). absurd (⊎_elim e (⊎_elim c f) (known d t))) (λ (t : formed d ≡ false). t) (cases_Bool (formed d))
