-- One turn of a copy, by what the take and the put answered; n readings may still be copied.
use Rattle.std.proofs.Common.{◌≡◌, ℕ, suc, ◌-◌, ◌<◌, cond, leb, List, [], ◌∷◌, ◌++◌, ℤ, Some, None, Option, Ok, Err, Result, sym, refl, subst, ap, ◌∙◌, arith}
use Rattle.std.specs.Result.{MatchResult, IsErrAnd}
use Rattle.std.proofs.lemmas.Result.{err_from_is_err_and}
use Rattle.std.proofs.lemmas.Bool.{le-leb, lt-leb}
use Rattle.vocabulary.specs.declared.item.Item.{Item}
use Rattle.vocabulary.specs.declared.item.Item.TheVariants.{Reading, Fault}
use Rattle.vocabulary.specs.declared.item.Fault.{Fault as FaultOf}
use Rattle.vocabulary.specs.declared.value.Plain.{Plain}
use Rattle.vocabulary.specs.declared.value.Plain.TheVariants.{Number}
use Rattle.ports.specs.declared.copy.Stop.TheVariants.{Empty, Fault as Faulted, Full as NoRoom}
use Rattle.ports.specs.declared.strip.StripFull.{StripFull}
use Rattle.ports.specs.Copies.{Stopped, outcome, copied}
use Rattle.ports.specs.Feeds.{Took}
use Rattle.ports.specs.Strips.{Put}

module _ (price : Plain → ℕ) (n : ℕ) (items : List Item) (values : List Plain) (space : ℕ) where
  module _ (some : 0 < n) (later : List Item) (taken : Option Item) (took : Took items later taken) where
    m : n ≡ suc (n - 1)
    m = omega arith

    pub copied_empty : (answer : Stopped) → taken ≡ None → answer ≡ Err Empty → outcome later values space answer ≡ copied price n items values space
    copied_empty answer e a =
        let t : Took items later None = subst (Took items later) e took in
        ap (outcome later values space) a
        ∙ ap (λ xs. outcome xs values space (Err Empty)) t.1
        ∙ sym (ap (λ k. copied price k items values space) m ∙ ap (λ xs. copied price (suc (n - 1)) xs values space) t.0)

    pub copied_fault : (answer : Stopped) (fault : FaultOf) → taken ≡ Some (Fault fault) → answer ≡ Err (Faulted fault) → outcome later values space answer ≡ copied price n items values space
    copied_fault answer fault e a =
        let t : Took items later (Some (Fault fault)) = subst (Took items later) e took in
        ap (outcome later values space) a
        ∙ sym (ap (λ k. copied price k items values space) m ∙ ap (λ xs. copied price (suc (n - 1)) xs values space) t)

    module _ (z : ℤ) (e : taken ≡ Some (Reading z)) (held : List Plain) (left : ℕ) (placed : Result (Unit {0}) StripFull)
        (put : Put (price (Number z)) (Number z) values space held left placed) where
      turn : copied price n items values space ≡ cond (leb (price (Number z)) space) (copied price (n - 1) later (values ++ (Number z ∷ [])) (space - price (Number z))) (outcome later values space (Err (NoRoom z)))
      turn =
          let t : Took items later (Some (Reading z)) = subst (Took items later) e took in
          ap (λ k. copied price k items values space) m ∙ ap (λ xs. copied price (suc (n - 1)) xs values space) t

      pub copied_full : (answer : Stopped) (full : StripFull) → placed ≡ Err full → answer ≡ Err (NoRoom z) → outcome later held left answer ≡ copied price n items values space
      copied_full answer full is a =
          let p : Put (price (Number z)) (Number z) values space held left (Err full) = subst (Put (price (Number z)) (Number z) values space held left) is put in
          ap (outcome later held left) a
          ∙ ap (λ vs. outcome later vs left (Err (NoRoom z))) p.1
          ∙ ap (λ k. outcome later values k (Err (NoRoom z))) p.2
          ∙ sym
          (turn
          ∙ ap (λ b. cond b (copied price (n - 1) later (values ++ (Number z ∷ [])) (space - price (Number z))) (outcome later values space (Err (NoRoom z)))) (lt-leb (price (Number z)) space p.0))

      pub copied_done : (k : ℕ) → placed ≡ Ok tt → k ≡ n - 1 → copied price k later held left ≡ copied price n items values space
      copied_done k is less =
          let p : Put (price (Number z)) (Number z) values space held left (Ok tt) = subst (Put (price (Number z)) (Number z) values space held left) is put in
          ap (λ i. copied price i later held left) less
          ∙ ap (λ vs. copied price (n - 1) later vs left) p.1
          ∙ ap (λ i. copied price (n - 1) later (values ++ (Number z ∷ [])) i) p.2
          ∙ sym
          (turn
          ∙ ap (λ b. cond b (copied price (n - 1) later (values ++ (Number z ∷ [])) (space - price (Number z))) (outcome later values space (Err (NoRoom z)))) (le-leb (price (Number z)) space p.0))

-- an error that was turned into another one is told by what it was turned into
module _ {T E F : Type 0} (Q : E → F → Type 0) where
  pub was_ok : (r : Result T E) (q : Result T F) (x : T) → MatchResult r (λ y. q ≡ Ok y) (λ e. IsErrAnd q (Q e)) → q ≡ Ok x → r ≡ Ok x
  was_ok (Ok y) q x h e = let c : y ≡ x = cc in ap Ok c
  was_ok (Err d) q x h e = let p = err_from_is_err_and q h in let c : ◌≡◌ {A = Result T F} (Ok x) (Err p.0) = sym e ∙ p.1 in cc

  pub was_err : (r : Result T E) (q : Result T F) (f : F) → MatchResult r (λ y. q ≡ Ok y) (λ e. IsErrAnd q (Q e)) → q ≡ Err f → (e : E) × (r ≡ Err e) × Q e f
  was_err (Ok y) q f h e = let c : ◌≡◌ {A = Result T F} (Ok y) (Err f) = sym h ∙ e in let z : ◌≡◌ {A = ℕ} 0 1 = cc in absurd (omega arith)
  was_err (Err d) q f h e =
      let p = err_from_is_err_and q h in
      let c : ◌≡◌ {A = Result T F} (Err p.0) (Err f) = sym p.1 ∙ e in
      let same : p.0 ≡ f = cc in
      (d, refl, subst (Q d) same p.2)
