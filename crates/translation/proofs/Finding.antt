-- The newest entry of a name, found from the oldest on: its place among the newest first is the number of newer ones.
use Rattle.std.proofs.Common.{◌≡◌, ◌≢◌, ℕ, zero, suc, ◌-◌, ◌<◌, Bool, true, false, eqb, List, [], ◌∷◌, length, get_or, reverse, Some, None, sym, refl, ap, ◌∙◌, subst, arith}
use Rattle.std.proofs.lemmas.Bool.{eq-eqb, ne_eqb}
use Rattle.std.proofs.lemmas.List.{get_or-reverse, length-reverse}
use Rattle.language.specs.declared.name.Entry.{Entry}
use Rattle.language.specs.Scope.{place_of, place, later}
use Rattle.translation.specs.declared.scope.Scope.{Scope}
use Rattle.translation.specs.Held.{visible, NewestAt, Unnamed}

by_name : (e : Entry) (sc : List Entry) (x : ℕ) {b : Bool} → eqb e.name x ≡ b → place_of (e ∷ sc) x ≡ elim b [ true ↦ Some (place 0 e.role) | false ↦ later (place_of sc x) ]
by_name e sc x t = ap (λ (b : Bool). elim b [ true ↦ Some (place 0 e.role) | false ↦ later (place_of sc x) ]) t

place_none : (sc : List Entry) (x : ℕ) → ((i : ℕ) → i < length sc → (d : Entry) → (get_or sc i d).name ≢ x) → place_of sc x ≡ None
place_none [] x bars = refl
place_none (e ∷ sc) x bars =
    by_name e sc x (ne_eqb _ _ (bars 0 (omega arith) e)) ∙ ap later (place_none sc x (λ i h d. bars (suc i) (omega arith) d))

place_at : (sc : List Entry) (x j : ℕ) (d : Entry) → j < length sc → (get_or sc j d).name ≡ x → ((i : ℕ) → i < j → (d : Entry) → (get_or sc i d).name ≢ x) → place_of sc x ≡ Some (place j (get_or sc j d).role)
place_at [] x j d h is bars = absurd (omega arith)
place_at (e ∷ sc) x zero d h is bars = by_name e sc x (eq-eqb _ _ is)
place_at (e ∷ sc) x (suc j) d h is bars =
    by_name e sc x (ne_eqb _ _ (bars 0 (omega arith) e)) ∙ ap later (place_at sc x j d (omega arith) is (λ i g d. bars (suc i) (omega arith) d))

pub newest_first : (s : Scope) {es : List Entry} → es ≡ s.entries → reverse es ≡ visible s
unfolding visible
newest_first s e = ap reverse e

-- the same, of the entries with the oldest first
module _ (es : List Entry) (x : ℕ) where
  read : (i : ℕ) (d : Entry) → i < length (reverse es) → get_or (reverse es) i d ≡ get_or es (length es - 1 - i) d
  read i d h = let l = length-reverse es in get_or-reverse es i d (omega arith)

  pub unnamed : Unnamed es x → None ≡ place_of (reverse es) x
  unnamed bars =
      let l = length-reverse es in
      sym (place_none (reverse es) x (λ i h d. subst (λ (e : Entry). e.name ≢ x) (sym (read i d h)) (bars (length es - 1 - i) (omega arith) d)))

  pub newest_at : (n : ℕ) (d : Entry) → NewestAt es x n → Some (place (length es - 1 - n) (get_or es n d).role) ≡ place_of (reverse es) x
  newest_at n d (h, is, bars) =
      let l = length-reverse es in
      let j : ℕ = length es - 1 - n in
      let in_range : j < length (reverse es) = omega arith in
      let back : length es - 1 - j ≡ n = omega arith in
      let here : get_or (reverse es) j d ≡ get_or es n d = read j d in_range ∙ ap (λ (k : ℕ). get_or es k d) back in
      let none_newer : (i : ℕ) → i < j → (e : Entry) → (get_or (reverse es) i e).name ≢ x =
      λ i g e. subst (λ (w : Entry). w.name ≢ x) (sym (read i e (omega arith))) (bars (length es - 1 - i) (omega arith) (omega arith) e) in
      ap (λ (e : Entry). Some (place j e.role)) (sym here) ∙ sym (place_at (reverse es) x j d in_range (ap (λ (e : Entry). e.name) here ∙ is d) none_newer)
