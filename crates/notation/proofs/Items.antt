-- The items of a trace, word by word: the words before `left` stand for the items so far, and items that stand in the line leave items that stand in `left`.
use Rattle.std.proofs.Common.{◌≡◌, ℕ, suc, ◌+◌, ◌<◌, ◌≤◌, true, false, cond, List, [], ◌∷◌, ◌++◌, length, sym, refl, ap, subst, append_assoc, append-nil, arith}
use Rattle.std.specs.List.{AllByRecursion}
use Rattle.std.proofs.lemmas.Bool.{cond_both}
use Rattle.vocabulary.specs.declared.item.Item.{Item}
use Rattle.notation.specs.Lines.{ItemRange, IsItem, AreItems}
use Rattle.notation.specs.Words.{blank, solid, trimmed, front, rest, word, behind, Words}

-- a line gets shorter with each word
length_front : (xs : List ℕ) → length (front xs) + length (rest xs) ≡ length xs
length_front [] = refl
length_front (b ∷ bs) =
    let e = length_front bs in
    elim (solid b) as (λ t. length (cond t (b ∷ front bs) []) + length (cond t (rest bs) (b ∷ bs)) ≡ suc (length bs)) [ true ↦ omega arith | false ↦ omega arith ]

trimmed_short : (xs : List ℕ) → length (trimmed xs) ≤ length xs
trimmed_short [] = omega arith
trimmed_short (b ∷ bs) = let h = trimmed_short bs in cond_both (blank b) (trimmed bs) (b ∷ bs) (λ t. length t ≤ suc (length bs)) (λ e. omega arith) (λ e. omega arith)

pub behind_shorter : (left : List ℕ) → 0 < length (word left) → length (behind left) < length left
behind_shorter left some = let f = length_front (trimmed left) in let t = trimmed_short left in omega arith

pub record Listed (line left : List ℕ) (items : List Item) : Type 0 where
  pub done : List (List ℕ)
  pub so_far : AreItems done items
  pub back : (ws : List (List ℕ)) → Words left ws → Words line (done ++ ws)
  pub on : (xs : List Item) → AllByRecursion ItemRange xs → (ws : List (List ℕ)) → Words line ws → AreItems ws xs → (ys : List Item) × AllByRecursion ItemRange ys × ((vs : List (List ℕ)) × Words left vs × AreItems vs ys)

pub listed_none : (line : List ℕ) → Listed line line []
listed_none line = record { done = []; so_far = tt; back = λ ws w. w; on = λ xs r ws w a. (xs, r, (ws, w, a)) }

items-push : (ws : List (List ℕ)) (xs : List Item) (w : List ℕ) (x : Item) → AreItems ws xs → IsItem w x → AreItems (ws ++ w ∷ []) (xs ++ x ∷ [])
items-push [] [] w x a i = (i, tt)
items-push [] (y ∷ ys) w x a i = absurd a
items-push (v ∷ vs) [] w x a i = absurd a
items-push (v ∷ vs) (y ∷ ys) w x a i = (a.0, items-push vs ys w x a.1 i)

module _ (line left : List ℕ) (items : List Item) (l : Listed line left items) where
  pub listed_all : word left ≡ [] → (ws : List (List ℕ)) × Words line ws × AreItems ws items
  listed_all e = (l.done, subst (Words line) (append-nil l.done) (l.back [] e), l.so_far)

  module _ (some : 0 < length (word left)) where
    -- the first item that is left
    first_left : (ys : List Item) → AllByRecursion ItemRange ys → (vs : List (List ℕ)) → Words left vs → AreItems vs ys → (y : Item) × (zs : List Item) × (us : List (List ℕ)) × ItemRange y × IsItem (word left) y × AllByRecursion ItemRange zs × Words (behind left) us × AreItems us zs
    first_left ys r [] w a = let z : length (word left) ≡ 0 = ap length w in absurd (omega arith)
    first_left [] r (v ∷ vs) w a = absurd a
    first_left (y ∷ ys) r (v ∷ vs) w a = (y, ys, vs, r.0, subst (λ t. IsItem t y) (sym w.0) a.0, r.1, w.2, a.1)

    pub listed_bad : ((x : Item) → ItemRange x → IsItem (word left) x → ⊥) → (xs : List Item) → AllByRecursion ItemRange xs → (ws : List (List ℕ)) → Words line ws → AreItems ws xs → ⊥
    listed_bad none xs r ws w a = let p = l.on xs r ws w a in let f = first_left p.0 p.1 p.2.0 p.2.1 p.2.2 in none f.0 f.3 f.4

    pub listed_more : (x : Item) → IsItem (word left) x → Listed line (behind left) (items ++ x ∷ [])
    listed_more x i = record {
      done = l.done ++ word left ∷ [];
      so_far = items-push l.done items (word left) x l.so_far i;
      back = λ ws w. subst (Words line) (sym (append_assoc l.done (word left ∷ []) ws)) (l.back (word left ∷ ws) (refl, some, w));
      on = λ xs r ws w a. let p = l.on xs r ws w a in let f = first_left p.0 p.1 p.2.0 p.2.1 p.2.2 in (f.1, f.5, (f.2, f.6, f.7));
    }
