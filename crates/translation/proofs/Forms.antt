-- What the kind of a node says of its tree and of its children, once for all kinds of a sort: the form that a kind reads from a node.
use Rattle.std.proofs.Common.{◌≡◌, ℕ, ◌<◌, cond, eqb, List, length, sym, refl, ap, ◌∙◌, subst}
use Rattle.vocabulary.specs.declared.node.Node.{Node}
use Rattle.language.specs.Tree.{node_e, node_c}
use Rattle.language.specs.Table.{at}
use Rattle.language.specs.Reading.{FormE, FormC, FormD, form_e, form_c, form_d, grow_e, grow_c, grow_d, tree_e, tree_c, tree_d, number_in, operation_of}
use Rattle.language.specs.Reading.FormE.{number_f, truth_f, read_f, name_f, operation_f, function_call_f, choice_f}
use Rattle.language.specs.Reading.FormC.{assign_f, output_f, when_f, while_f, block_f, sequence_f, procedure_call_f}
use Rattle.language.specs.Reading.FormD.{constant_f, variable_f, procedure_f, function_f, pair_f}
use Rattle.language.specs.Sound.{Sound, SoundE, SoundC, SoundD, IsE, IsC, IsD}
use Rattle.language.proofs.Shape.{sound}
use Rattle.language.proofs.Trees.{tree_e_is, tree_c_is, tree_d_is}
use Rattle.translation.specs.declared.translator.Translator.{Translator}
use Rattle.translation.specs.Translated.{nodes, ReadyE, ReadyC}

-- what a node says, were it of kind k
abbrev pub as_e : ℕ → Node → FormE
as_e k d =
    cond (eqb k 20) (number_f (number_in d))
    (cond (eqb k 21) (truth_f (eqb d.tag 1))
    (cond (eqb k 22) read_f
    (cond (eqb k 23) (name_f d.tag)
    (cond (eqb k 24) (operation_f (operation_of d.tag) d.a d.b)
    (cond (eqb k 25) (function_call_f d.tag d.a)
    (choice_f d.a d.b d.c))))))

abbrev pub as_c : ℕ → Node → FormC
as_c k d =
    cond (eqb k 1) (assign_f d.a d.b)
    (cond (eqb k 2) (output_f d.a)
    (cond (eqb k 3) (when_f d.a d.b d.c)
    (cond (eqb k 4) (while_f d.a d.b)
    (cond (eqb k 5) (block_f d.a d.b)
    (cond (eqb k 6) (sequence_f d.a d.b)
    (procedure_call_f d.tag d.a))))))

abbrev pub as_d : ℕ → Node → FormD
as_d k d =
    cond (eqb k 10) (constant_f d.tag d.a)
    (cond (eqb k 11) (variable_f d.tag d.a)
    (cond (eqb k 12) (procedure_f d.tag d.a d.c)
    (cond (eqb k 13) (function_f d.tag d.a d.c)
    (pair_f d.a d.b))))

form_e_as : (d : Node) → form_e d ≡ as_e d.kind d
unfolding form_e
form_e_as d = refl

form_c_as : (d : Node) → form_c d ≡ as_c d.kind d
unfolding form_c
form_c_as d = refl

form_d_as : (d : Node) → form_d d ≡ as_d d.kind d
unfolding form_d
form_d_as d = refl

pub sound_of : (t : Translator) → Sound (nodes t)
sound_of t = sound (nodes t) t.shaped.shape

module _ {t : Translator} {n k : ℕ} {d : Node} (e : d ≡ at (nodes t) n) (i : (at (nodes t) n).kind ≡ k) where
  pub at_e : ReadyE t n → (tree_e (nodes t) n ≡ grow_e (tree_e (nodes t)) n (as_e k d)) × SoundE (nodes t) n (as_e k d)
  at_e p =
      let ns = nodes t in
      let j : form_e (at ns n) ≡ as_e k d = form_e_as (at ns n) ∙ ap (λ (m : ℕ). as_e m (at ns n)) i ∙ ap (as_e k) (sym e) in
      (tree_e_is ns (sound_of t) n p.here p.sort ∙ ap (grow_e (tree_e ns) n) j, subst (SoundE ns n) j ((sound_of t).expressions n p.here p.sort))

  pub at_c : ReadyC t n → (tree_c (nodes t) n ≡ grow_c (tree_e (nodes t)) (tree_c (nodes t)) (tree_d (nodes t)) n (as_c k d)) × SoundC (nodes t) n (as_c k d)
  at_c p =
      let ns = nodes t in
      let j : form_c (at ns n) ≡ as_c k d = form_c_as (at ns n) ∙ ap (λ (m : ℕ). as_c m (at ns n)) i ∙ ap (as_c k) (sym e) in
      (tree_c_is ns (sound_of t) n p.here p.sort ∙ ap (grow_c (tree_e ns) (tree_c ns) (tree_d ns) n) j, subst (SoundC ns n) j ((sound_of t).commands n p.here p.sort))

module _ (t : Translator) {n k : ℕ} {d : Node} (e : d ≡ at (nodes t) n) (i : (at (nodes t) n).kind ≡ k) where
  pub at_d : n < length (nodes t) → IsD (nodes t) n → (tree_d (nodes t) n ≡ grow_d (tree_e (nodes t)) (tree_c (nodes t)) (tree_d (nodes t)) n (as_d k d)) × SoundD (nodes t) n (as_d k d)
  at_d h s =
      let ns = nodes t in
      let j : form_d (at ns n) ≡ as_d k d = form_d_as (at ns n) ∙ ap (λ (m : ℕ). as_d m (at ns n)) i ∙ ap (as_d k) (sym e) in
      (tree_d_is ns (sound_of t) n h s ∙ ap (grow_d (tree_e ns) (tree_c ns) (tree_d ns) n) j, subst (SoundD ns n) j ((sound_of t).declarations n h s))

-- a tree carries the number of its node
pub numbered_e : (ns : List Node) (g : Sound ns) (n : ℕ) → n < length ns → IsE ns n → node_e (tree_e ns n) ≡ n
numbered_e ns g n l i = ap node_e (tree_e_is ns g n l i) ∙ of_form (form_e (at ns n))
  where
    of_form : (F : FormE) → node_e (grow_e (tree_e ns) n F) ≡ n
    of_form (number_f v) = refl
    of_form (truth_f t) = refl
    of_form read_f = refl
    of_form (name_f x) = refl
    of_form (operation_f o a b) = refl
    of_form (function_call_f f a) = refl
    of_form (choice_f a b c) = refl

pub numbered_c : (ns : List Node) (g : Sound ns) (n : ℕ) → n < length ns → IsC ns n → node_c (tree_c ns n) ≡ n
numbered_c ns g n l i = ap node_c (tree_c_is ns g n l i) ∙ of_form (form_c (at ns n))
  where
    of_form : (F : FormC) → node_c (grow_c (tree_e ns) (tree_c ns) (tree_d ns) n F) ≡ n
    of_form (assign_f a b) = refl
    of_form (output_f a) = refl
    of_form (when_f a b c) = refl
    of_form (while_f a b) = refl
    of_form (block_f a b) = refl
    of_form (sequence_f a b) = refl
    of_form (procedure_call_f f a) = refl
