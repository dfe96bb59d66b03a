-- Environments and dump read off the tables stay the same lists where the tables grow or are given back, since each entry's
-- environment is older than the entry (`linked`) and each frame's is among the bindings in use with it (`nested`).
use Rattle.std.proofs.Common.{◌≡◌, ℕ, zero, suc, ◌-◌, ◌<◌, ◌≤◌, true, false, cond, ◌&&◌, eqb, leb, List, [], ◌∷◌, ◌++◌, reverse, length, drop, Some, None, Option, Ok, Err, Result, is_ok, sym, refl, ap, ◌∙◌, subst, inl, inr, le_of_suc-le-suc, not-suc-le-zero, add-one, arith}
use Rattle.std.proofs.lemmas.List.{length-drop, length-append, reverse-append, reverse-reverse, length-reverse}
use Rattle.std.proofs.lemmas.Bool.{leb-true, le-leb, eq-eqb, ne_eqb, and_parts, and_from, cases_order}
use Rattle.vocabulary.proofs.Tabled.{found_none}
use Rattle.vocabulary.specs.declared.table.TableFull.{TableFull}
use Rattle.vocabulary.specs.Appending.{Added}
use Rattle.vocabulary.specs.Tables.{found, oldest}
use Rattle.machine.specs.declared.tables.Entry.{Entry}
use Rattle.machine.specs.declared.tables.Frame.{Frame}
use Rattle.machine.specs.State.Dump.{frame}
use Rattle.machine.specs.Links.{reach, chain, chains, linked, nested, Opened, Found}

-- environments

pub chain_old : (c : Entry) (t : List Entry) (e : ℕ) → e ≤ length t → chain (c ∷ t) e ≡ chain t e
unfolding chain
chain_old c t e h =
    let ne : eqb e (suc (length t)) ≡ false = ne_eqb e (suc (length t)) (λ q. omega arith) in
    ap (λ b. cond b (c.what ∷ chain t (reach c.below)) (chain t e)) ne

pub chain-new : (c : Entry) (t : List Entry) (e : ℕ) → e ≡ suc (length t) → chain (c ∷ t) e ≡ c.what ∷ chain t (reach c.below)
unfolding chain
chain-new c t e h = ap (λ b. cond b (c.what ∷ chain t (reach c.below)) (chain t e)) (eq-eqb e (suc (length t)) h)

pub chain_none : (t : List Entry) → chain t 0 ≡ []
unfolding chain
chain_none [] = refl
chain_none (c ∷ t) = chain_old c t 0 (omega arith) ∙ chain_none t

pub chain-past : (t : List Entry) (e : ℕ) → length t < e → chain t e ≡ []
unfolding chain
chain-past [] e h = refl
chain-past (c ∷ t) e h =
    let ne : eqb e (suc (length t)) ≡ false = ne_eqb e (suc (length t)) (λ q. omega arith) in
    ap (λ b. cond b (c.what ∷ chain t (reach c.below)) (chain t e)) ne ∙ chain-past t e (omega arith)

pub chain-drop : (k : ℕ) (t : List Entry) (e : ℕ) → e ≤ length (drop k t) → chain (drop k t) e ≡ chain t e
chain-drop zero t e h = refl
chain-drop (suc k) [] e h = refl
chain-drop (suc k) (c ∷ t) e h =
    let l = length-drop k t in
    chain-drop k t e h ∙ sym (chain_old c t e (omega arith))

pub linked-drop : (k : ℕ) (t : List Entry) → linked t ≡ true → linked (drop k t) ≡ true
unfolding linked
linked-drop zero t h = h
linked-drop (suc k) [] h = refl
linked-drop (suc k) (c ∷ t) h = linked-drop k t (and_parts (leb (reach c.below) (length t)) (linked t) h).1

pub linked-new : (c : Entry) (t : List Entry) → (reach c.below) ≤ length t → linked t ≡ true → linked (c ∷ t) ≡ true
unfolding linked
linked-new c t h l = and_from (leb (reach c.below) (length t)) (linked t) (le-leb (reach c.below) (length t) h) l

linked-below : (c : Entry) (t : List Entry) → linked (c ∷ t) ≡ true → (reach c.below) ≤ length t
unfolding linked
linked-below c t h = leb-true (reach c.below) (length t) (and_parts (leb (reach c.below) (length t)) (linked t) h).0

-- frames

pub nested_env : (n e : ℕ) (fs : List Frame) → nested n e fs ≡ true → e ≤ n
unfolding nested
nested_env n e [] h = leb-true e n h
nested_env n e (f ∷ fs) h = leb-true e n (and_parts (leb e n) (leb f.bound n && nested f.bound (reach f.env) fs) h).0

pub nested-leave : (n e : ℕ) (f : Frame) (fs : List Frame) → nested n e (f ∷ fs) ≡ true → (f.bound ≤ n) × (nested f.bound (reach f.env) fs ≡ true)
unfolding nested
nested-leave n e f fs h =
    let p = (and_parts (leb e n) (leb f.bound n && nested f.bound (reach f.env) fs) h).1 in
    let q = and_parts (leb f.bound n) (nested f.bound (reach f.env) fs) p in
    (leb-true f.bound n q.0, q.1)

pub nested_on : (n m e d : ℕ) (fs : List Frame) → n ≤ m → d ≤ m → nested n e fs ≡ true → nested m d fs ≡ true
unfolding nested
nested_on n m e d [] h k l = le-leb d m k
nested_on n m e d (f ∷ fs) h k l =
    let q = nested-leave n e f fs l in
    let b : f.bound ≤ m = omega (arith, q.0) in
    and_from (leb d m) (leb f.bound m && nested f.bound (reach f.env) fs) (le-leb d m k)
    (and_from (leb f.bound m) (nested f.bound (reach f.env) fs) (le-leb f.bound m b) q.1)

pub nested-enter : (n d : ℕ) (f : Frame) (fs : List Frame) → f.bound ≤ n → d ≤ n → nested f.bound (reach f.env) fs ≡ true → nested n d (f ∷ fs) ≡ true
unfolding nested
nested-enter n d f fs b k l =
    and_from (leb d n) (leb f.bound n && nested f.bound (reach f.env) fs) (le-leb d n k)
    (and_from (leb f.bound n) (nested f.bound (reach f.env) fs) (le-leb f.bound n b) l)

pub chains-drop : (k : ℕ) (t : List Entry) (n e : ℕ) (fs : List Frame) → n ≤ length (drop k t) → nested n e fs ≡ true → chains (drop k t) fs ≡ chains t fs
unfolding chains
chains-drop k t n e [] h l = refl
chains-drop k t n e (f ∷ fs) h l =
    let q = nested-leave n e f fs l in
    let i = nested_env f.bound (reach f.env) fs q.1 in
    let a : chain (drop k t) (reach f.env) ≡ chain t (reach f.env) = chain-drop k t (reach f.env) (omega (arith, q.0)) in
    let b : chains (drop k t) fs ≡ chains t fs = chains-drop k t f.bound (reach f.env) fs (omega (arith, q.0)) q.1 in
    rw (a, b)

pub chains-length : (t : List Entry) (fs : List Frame) → length (chains t fs) ≡ length fs
unfolding chains
chains-length t [] = refl
chains-length t (f ∷ fs) = ap suc (chains-length t fs)

-- entries

found_left : {X : Type 0} (xs ys : List X) (k : ℕ) → k < length xs → found (xs ++ ys) k ≡ found xs k
found_left [] ys k h = absurd (not-suc-le-zero h)
found_left (x ∷ xs) ys zero h = refl
found_left (x ∷ xs) ys (suc k) h = found_left xs ys k (le_of_suc-le-suc h)

found_at : {X : Type 0} (xs : List X) (y : X) → found (xs ++ (y ∷ [])) (length xs) ≡ Some y
found_at [] y = refl
found_at (x ∷ xs) y = found_at xs y

found_within : {X : Type 0} (xs : List X) (k : ℕ) → None ≡ found xs k → length xs ≤ k
found_within [] k h = omega arith
found_within (x ∷ xs) zero h = let z : ◌≡◌ {A = ℕ} 0 1 = cc in absurd (omega arith)
found_within (x ∷ xs) (suc k) h = let i = found_within xs k h in omega arith

opened-past : (c : Entry) (t : List Entry) (e : ℕ) (x : Entry) → e ≤ length t → Opened t e (Some x) → Opened (c ∷ t) e (Some x)
opened-past c t e x h o =
    let l = o.1 in
    (chain_old c t e h ∙ o.0 ∙ ap (λ m. x.what ∷ m) (sym (chain_old c t (reach x.below) l)), omega arith)

opened-here : (c : Entry) (t : List Entry) (e : ℕ) (x : Entry) → e ≡ suc (length t) → c ≡ x → linked (c ∷ t) ≡ true → Opened (c ∷ t) e (Some x)
opened-here c t e x h q l =
    let b = linked-below c t l in
    let o : Opened (c ∷ t) e (Some c) = (chain-new c t e h ∙ ap (λ m. c.what ∷ m) (sym (chain_old c t (reach c.below) b)), omega arith) in
    subst (λ y. Opened (c ∷ t) e (Some y)) q o

pub opened : (t : List Entry) (k : ℕ) (x : Entry) → linked t ≡ true → Some x ≡ found (reverse t) k → Opened t (suc k) (Some x)
unfolding linked
opened [] k x l h = let z : ◌≡◌ {A = ℕ} 0 1 = cc in absurd (omega arith)
opened (c ∷ t) k x l h =
    let rev : reverse (c ∷ t) ≡ reverse t ++ (c ∷ []) = reverse-append (c ∷ []) t in
    let len = length-reverse t in
    let f : Some x ≡ found (reverse t ++ (c ∷ [])) k = h ∙ ap (λ ys. found ys k) rev in
    elim (cases_order k (length t)) [
      | inl e ↦
          let g : found (reverse t ++ (c ∷ [])) k ≡ Some c = ap (found (reverse t ++ (c ∷ []))) (e ∙ sym len) ∙ found_at (reverse t) c in
          let q : c ≡ x = cc in
          opened-here c t (suc k) x (ap suc e) q l
      | inr (inl lt) ↦
          let g : found (reverse t ++ (c ∷ [])) k ≡ found (reverse t) k = found_left (reverse t) (c ∷ []) k (omega arith) in
          opened-past c t (suc k) x lt (opened t k x (and_parts (leb (reach c.below) (length t)) (linked t) l).1 (f ∙ g))
      | inr (inr gt) ↦
          let ll : length (reverse t ++ (c ∷ [])) ≡ suc (length t) = sym (ap length rev) ∙ length-reverse (c ∷ t) in
          let g : found (reverse t ++ (c ∷ [])) k ≡ None = found_none (reverse t ++ (c ∷ [])) k (omega arith) in
          let z : ◌≡◌ {A = ℕ} 0 1 = cc in absurd (omega arith)
    ]

-- the newest entry of an environment, and the one with d newer ones

-- the answer of the table's own reading, oldest first
pub entry_some : (es : List Entry) (k : ℕ) (r : Option Entry) → linked (reverse es) ≡ true → r ≡ found es k → Opened (reverse es) (suc k) r
entry_some es k None l f =
    let len = length-reverse es in
    let i = found_within es k f in
    chain-past (reverse es) (suc k) (omega arith)
entry_some es k (Some x) l f = opened (reverse es) k x l (f ∙ ap (λ ys. found ys k) (sym (reverse-reverse es)))

pub outer_at : (t : List Entry) (e : ℕ) (x : Entry) → Opened t e (Some x) → chain t (reach x.below) ≡ drop 1 (chain t e)
outer_at t e x o = sym (ap (drop 1) o.0)

pub outer_none : (t : List Entry) (e : ℕ) → Opened t e None → chain t 0 ≡ drop 1 (chain t e)
outer_none t e o = chain_none t ∙ sym (ap (drop 1) o)

found_beyond : {X : Type 0} (xs : List X) (d : ℕ) → [] ≡ drop d xs → found xs d ≡ None
found_beyond [] d h = refl
found_beyond (x ∷ xs) zero h = let z : ◌≡◌ {A = ℕ} 0 1 = cc in absurd (omega arith)
found_beyond (x ∷ xs) (suc d) h = found_beyond xs d h

found-behind : {X : Type 0} (xs ys : List X) (y : X) (d : ℕ) → y ∷ ys ≡ drop d xs → (found xs d ≡ Some y) × (drop (suc d) xs ≡ ys)
found-behind [] ys y zero h = let z : ◌≡◌ {A = ℕ} 0 1 = cc in absurd (omega arith)
found-behind [] ys y (suc d) h = let z : ◌≡◌ {A = ℕ} 0 1 = cc in absurd (omega arith)
found-behind (x ∷ xs) ys y zero h = (cc, cc)
found-behind (x ∷ xs) ys y (suc d) h = found-behind xs ys y d h

pub find_at : (t : List Entry) (e d r : ℕ) (x : Option Entry) → chain t r ≡ drop d (chain t e) → Opened t r x → Found t e d x
find_at t e d r None h o = found_beyond (chain t e) d (sym o ∙ h)
find_at t e d r (Some x) h o =
    let f = found-behind (chain t e) (chain t (reach x.below)) x.what d (sym o.0 ∙ h) in
    (f.0, f.1, o.1)

-- a new binding before an environment

pub linked_more : (es ds : List Entry) (c : Entry) → ds ≡ es ++ (c ∷ []) → reach c.below ≤ length es → linked (reverse es) ≡ true → linked (reverse ds) ≡ true
linked_more es ds c q h l =
    let len = length-reverse es in
    let z : reverse ds ≡ c ∷ reverse es = ap reverse q ∙ reverse-append es (c ∷ []) in
    rw z (linked-new c (reverse es) (omega arith) l)

pub one_more : (es ds : List Entry) (c : Entry) → ds ≡ es ++ (c ∷ []) → length ds ≡ suc (length es)
one_more es ds c q = ap length q ∙ length-append es (c ∷ []) ∙ add-one (length es)

pub record Grown (es ds : List Entry) (fs : List Frame) (c : Entry) (e : ℕ) : Type 0 where
  pub nests : nested (length ds) e fs ≡ true
  pub counts : length ds ≡ suc (length es)
  pub environment : chain (reverse ds) e ≡ c.what ∷ chain (reverse es) (reach c.below)
  pub dumps : chains (reverse ds) fs ≡ chains (reverse es) fs

pub grown : (es ds : List Entry) (fs : List Frame) (c : Entry) (e : ℕ) → ds ≡ es ++ (c ∷ []) → e ≡ suc (length es) → nested (length es) (reach c.below) fs ≡ true → Grown es ds fs c e
grown es ds fs c e q z h =
    let len = length-reverse es in
    let u : reverse ds ≡ c ∷ reverse es = ap reverse q ∙ reverse-append es (c ∷ []) in
    let n : length ds ≡ suc (length es) = one_more es ds c q in
    record {
      nests = nested_on (length es) (length ds) (reach c.below) e fs (omega arith) (omega arith) h;
      counts = n;
      environment = ap (λ v. chain v e) u ∙ chain-new c (reverse es) e (z ∙ ap suc (sym len));
      dumps = ap (λ v. chains v fs) u ∙ sym (chains-drop 1 (c ∷ reverse es) (length es) (reach c.below) fs (omega arith) h);
    }

pub nested_more : (es ds : List Entry) (fs : List Frame) (c : Entry) (e : Option ℕ) (r : Result (Unit {0}) TableFull) → Added 512 es ds c r → e ≡ cond (is_ok r) (Some (length es)) c.below → nested (length es) (reach c.below) fs ≡ true → nested (length ds) (reach e) fs ≡ true
nested_more es ds fs c e (Ok _) a z h = (grown es ds fs c (reach e) a.1 (ap reach z) h).nests
nested_more es ds fs c e (Err _) a z h = rw (a.1, z) h

-- the bindings made since a frame are given back

pub linked_less : (es ds : List Entry) (n : ℕ) → reverse ds ≡ oldest n (reverse es) → linked (reverse es) ≡ true → linked (reverse ds) ≡ true
linked_less es ds n q l = rw q (linked-drop (length (reverse es) - n) (reverse es) l)

pub fewer : (es ds : List Entry) (n : ℕ) → reverse ds ≡ oldest n (reverse es) → n ≤ length es → length ds ≡ n
fewer es ds n q h =
    let len = length-reverse es in
    sym (length-reverse ds) ∙ ap length q ∙ length-drop (length (reverse es) - n) (reverse es) ∙ omega arith

pub among_less : (es ds : List Entry) (n e : ℕ) → reverse ds ≡ oldest n (reverse es) → n ≤ length es → e ≤ n → e ≤ length ds
among_less es ds n e q h k =
    let len : length ds ≡ n = fewer es ds n q h in
    omega arith

pub frame_fits : (n e : ℕ) (fs gs : List Frame) (f : Frame) → fs ≡ f ∷ gs → nested n e fs ≡ true → (f.bound ≤ n) × (reach f.env ≤ f.bound)
frame_fits n e fs gs f p h =
    let l = nested-leave n e f gs (subst (λ xs. nested n e xs ≡ true) p h) in
    (l.0, nested_env f.bound (reach f.env) gs l.1)

pub record Back (es ds : List Entry) (fs gs : List Frame) (f : Frame) : Type 0 where
  pub nests : nested (length ds) (reach f.env) gs ≡ true
  pub shown : chains (reverse es) fs ≡ frame (chain (reverse ds) (reach f.env)) (length ds) f.other ∷ chains (reverse ds) gs

pub back : (es ds : List Entry) (fs gs : List Frame) (f : Frame) (e : ℕ) → fs ≡ f ∷ gs → reverse ds ≡ oldest f.bound (reverse es) → nested (length es) e fs ≡ true → Back es ds fs gs f
unfolding chains
back es ds fs gs f e p q h =
    let k = length (reverse es) - f.bound in
    let n = nested-leave (length es) e f gs (subst (λ xs. nested (length es) e xs ≡ true) p h) in
    let i = nested_env f.bound (reach f.env) gs n.1 in
    let len : length ds ≡ f.bound = fewer es ds f.bound q n.0 in
    let cut : f.bound ≤ length (drop k (reverse es)) = rw (← q, length-reverse) (omega arith) in
    let a : chain (reverse ds) (reach f.env) ≡ chain (reverse es) (reach f.env) = ap (λ v. chain v (reach f.env)) q ∙ chain-drop k (reverse es) (reach f.env) (omega arith) in
    let d : chains (reverse ds) gs ≡ chains (reverse es) gs = ap (λ v. chains v gs) q ∙ chains-drop k (reverse es) f.bound (reach f.env) gs cut n.1 in
    record {
      nests = subst (λ m. nested m (reach f.env) gs ≡ true) (sym len) n.1;
      shown = ap (chains (reverse es)) p ∙ (let z : chains (reverse es) (f ∷ gs) ≡ frame (chain (reverse ds) (reach f.env)) (length ds) f.other ∷ chains (reverse ds) gs = rw (a, len, d) in z);
    }

-- another environment among the same bindings

pub nested_in : (es ds : List Entry) (e d : ℕ) (fs : List Frame) → ds ≡ es → d ≤ length ds → nested (length es) e fs ≡ true → nested (length ds) d fs ≡ true
nested_in es ds e d fs q k h = nested_on (length es) (length ds) e d fs (rw q (omega arith)) k h

-- the dump

pub chains_none : (t : List Entry) (fs : List Frame) → fs ≡ [] → chains t fs ≡ []
unfolding chains
chains_none t fs h = ap (chains t) h

-- a frame more
pub chains_more : (t : List Entry) (fs gs : List Frame) (f : Frame) → gs ≡ f ∷ fs → chains t gs ≡ frame (chain t (reach f.env)) f.bound f.other ∷ chains t fs
unfolding chains
chains_more t fs gs f h = ap (chains t) h
