-- The tree of a node, from the trees of its children. Depths that are large enough give one tree.
use Rattle.std.proofs.Common.{◌≡◌, ℕ, zero, suc, ◌<◌, List, length, refl, arith}
use Rattle.vocabulary.specs.declared.node.Node.{Node}
use Rattle.language.specs.Tree.{Expression, Command, Declaration}
use Rattle.language.specs.Reading.{FormE, FormC, FormD, form_e, form_c, form_d, grow_e, grow_c, grow_d, grown_e, grown_c, grown_d, tree_e, tree_c, tree_d}
use Rattle.language.specs.Reading.FormE.{number_f, truth_f, read_f, name_f, operation_f, function_call_f, choice_f}
use Rattle.language.specs.Reading.FormC.{assign_f, output_f, when_f, while_f, block_f, sequence_f, procedure_call_f}
use Rattle.language.specs.Reading.FormD.{constant_f, variable_f, procedure_f, function_f, pair_f}
use Rattle.language.specs.Sound.{IsE, IsC, IsD, SoundE, SoundC, SoundD, Sound}
use Rattle.language.specs.Table.{at}

module _ (nodes : List Node) where
  -- readers that agree below n give one tree
  same_e : (r s : ℕ → Expression) (n : ℕ) (F : FormE) → SoundE nodes n F → ((a : ℕ) → a < n → IsE nodes a → r a ≡ s a) → grow_e r n F ≡ grow_e s n F
  same_e r s n (number_f z) h e = refl
  same_e r s n (truth_f t) h e = refl
  same_e r s n read_f h e = refl
  same_e r s n (name_f x) h e = refl
  same_e r s n (operation_f o a b) h e = let p = e a h.0.0 h.0.1 in let q = e b h.1.0 h.1.1 in cc
  same_e r s n (function_call_f f a) h e = let p = e a h.0 h.1 in cc
  same_e r s n (choice_f a b c) h e = let p = e a h.0.0 h.0.1 in let q = e b h.1.0 h.1.1 in let u = e c h.2.0 h.2.1 in cc

  module _ (r r' : ℕ → Expression) (s s' : ℕ → Command) (t t' : ℕ → Declaration) (n : ℕ)
      (e : (a : ℕ) → a < n → IsE nodes a → r a ≡ r' a) (c : (a : ℕ) → a < n → IsC nodes a → s a ≡ s' a) (d : (a : ℕ) → a < n → IsD nodes a → t a ≡ t' a) where
    same_c : (F : FormC) → SoundC nodes n F → grow_c r s t n F ≡ grow_c r' s' t' n F
    same_c (assign_f x y) h = let p = e x h.0.0 h.0.1 in let q = e y h.1.0 h.1.1 in cc
    same_c (output_f x) h = let p = e x h.0 h.1 in cc
    same_c (when_f x y z) h = let p = e x h.0.0 h.0.1 in let q = c y h.1.0 h.1.1 in let u = c z h.2.0 h.2.1 in cc
    same_c (while_f x y) h = let p = e x h.0.0 h.0.1 in let q = c y h.1.0 h.1.1 in cc
    same_c (block_f x y) h = let p = d x h.0.0 h.0.1 in let q = c y h.1.0 h.1.1 in cc
    same_c (sequence_f x y) h = let p = c x h.0.0 h.0.1 in let q = c y h.1.0 h.1.1 in cc
    same_c (procedure_call_f f x) h = let p = e x h.0 h.1 in cc

    same_d : (F : FormD) → SoundD nodes n F → grow_d r s t n F ≡ grow_d r' s' t' n F
    same_d (constant_f x y) h = let p = e y h.0 h.1 in cc
    same_d (variable_f x y) h = let p = e y h.0 h.1 in cc
    same_d (procedure_f x y z) h = let p = c y h.0 h.1 in cc
    same_d (function_f x y z) h = let p = e y h.0 h.1 in cc
    same_d (pair_f x y) h = let p = d x h.0.0 h.0.1 in let q = d y h.1.0 h.1.1 in cc

module _ (nodes : List Node) (sound : Sound nodes) where
  depth_e : (f k n : ℕ) → n < f → n < k → n < length nodes → IsE nodes n → grown_e f nodes n ≡ grown_e k nodes n
  unfolding grown_e
  depth_e zero k n p q l i = absurd (omega arith)
  depth_e (suc f) zero n p q l i = absurd (omega arith)
  depth_e (suc f) (suc k) n p q l i =
      same_e nodes (λ a. grown_e f nodes a) (λ a. grown_e k nodes a) n (form_e (at nodes n)) (sound.expressions n l i)
      (λ a lt j. depth_e f k a (omega arith) (omega arith) (omega arith) j)

  mutual
    unfolding grown_c grown_d

    depth_c : (f k n : ℕ) → n < f → n < k → n < length nodes → IsC nodes n → grown_c f nodes n ≡ grown_c k nodes n
    depth_c zero k n p q l i = absurd (omega arith)
    depth_c (suc f) zero n p q l i = absurd (omega arith)
    depth_c (suc f) (suc k) n p q l i =
        same_c nodes (λ a. grown_e f nodes a) (λ a. grown_e k nodes a) (λ a. grown_c f nodes a) (λ a. grown_c k nodes a) (λ a. grown_d f nodes a) (λ a. grown_d k nodes a) n
        (λ a lt j. depth_e f k a (omega arith) (omega arith) (omega arith) j)
        (λ a lt j. depth_c f k a (omega arith) (omega arith) (omega arith) j)
        (λ a lt j. depth_d f k a (omega arith) (omega arith) (omega arith) j)
        (form_c (at nodes n)) (sound.commands n l i)

    depth_d : (f k n : ℕ) → n < f → n < k → n < length nodes → IsD nodes n → grown_d f nodes n ≡ grown_d k nodes n
    depth_d zero k n p q l i = absurd (omega arith)
    depth_d (suc f) zero n p q l i = absurd (omega arith)
    depth_d (suc f) (suc k) n p q l i =
        same_d nodes (λ a. grown_e f nodes a) (λ a. grown_e k nodes a) (λ a. grown_c f nodes a) (λ a. grown_c k nodes a) (λ a. grown_d f nodes a) (λ a. grown_d k nodes a) n
        (λ a lt j. depth_e f k a (omega arith) (omega arith) (omega arith) j)
        (λ a lt j. depth_c f k a (omega arith) (omega arith) (omega arith) j)
        (λ a lt j. depth_d f k a (omega arith) (omega arith) (omega arith) j)
        (form_d (at nodes n)) (sound.declarations n l i)

  -- the tree of a node is that of its form over the trees of its children
  pub tree_e_is : (n : ℕ) → n < length nodes → IsE nodes n → tree_e nodes n ≡ grow_e (tree_e nodes) n (form_e (at nodes n))
  unfolding tree_e grown_e
  tree_e_is n l i =
      same_e nodes (λ a. grown_e n nodes a) (λ a. grown_e (suc a) nodes a) n (form_e (at nodes n)) (sound.expressions n l i)
      (λ a lt j. depth_e n (suc a) a (omega arith) (omega arith) (omega arith) j)

  pub tree_c_is : (n : ℕ) → n < length nodes → IsC nodes n → tree_c nodes n ≡ grow_c (tree_e nodes) (tree_c nodes) (tree_d nodes) n (form_c (at nodes n))
  unfolding tree_e tree_c tree_d grown_c grown_d
  tree_c_is n l i =
      same_c nodes (λ a. grown_e n nodes a) (λ a. grown_e (suc a) nodes a) (λ a. grown_c n nodes a) (λ a. grown_c (suc a) nodes a) (λ a. grown_d n nodes a) (λ a. grown_d (suc a) nodes a) n
      (λ a lt j. depth_e n (suc a) a (omega arith) (omega arith) (omega arith) j)
      (λ a lt j. depth_c n (suc a) a (omega arith) (omega arith) (omega arith) j)
      (λ a lt j. depth_d n (suc a) a (omega arith) (omega arith) (omega arith) j)
      (form_c (at nodes n)) (sound.commands n l i)

  pub tree_d_is : (n : ℕ) → n < length nodes → IsD nodes n → tree_d nodes n ≡ grow_d (tree_e nodes) (tree_c nodes) (tree_d nodes) n (form_d (at nodes n))
  unfolding tree_e tree_c tree_d grown_c grown_d
  tree_d_is n l i =
      same_d nodes (λ a. grown_e n nodes a) (λ a. grown_e (suc a) nodes a) (λ a. grown_c n nodes a) (λ a. grown_c (suc a) nodes a) (λ a. grown_d n nodes a) (λ a. grown_d (suc a) nodes a) n
      (λ a lt j. depth_e n (suc a) a (omega arith) (omega arith) (omega arith) j)
      (λ a lt j. depth_c n (suc a) a (omega arith) (omega arith) (omega arith) j)
      (λ a lt j. depth_d n (suc a) a (omega arith) (omega arith) (omega arith) j)
      (form_d (at nodes n)) (sound.declarations n l i)
