use Rattle.std.proofs.Common.{◌≡◌, ℕ, List, Option, ◌∷◌, ◌++◌, [], drop, reverse, length, refl, rules, ap, sym, arith, ◌∙◌, drop-drop, length-append}
use Rattle.std.proofs.iter.Yields.{nat_range_steps}
use Rattle.std.proofs.lemmas.Fn.{fold_over}
use Rattle.std.proofs.lemmas.Iterator.{YieldsList-from_range}
use Rattle.std.proofs.lemmas.List.FromFn.{length-range_with_len}
use Rattle.std.specs.List.{range_with_len}
use Rattle.machine.specs.declared.tables.Entry.{Entry}
use Rattle.machine.specs.Links.{chain, reach}
use Rattle.machine.proofs.environment.Bindings.behind.Goals as goal

-- one entry more is passed
one_further : (t : List Entry) (ys : List ℕ) (x a b e : ℕ) → chain t a ≡ drop (length ys) (chain t e) → chain t b ≡ drop 1 (chain t a) → chain t b ≡ drop (length (ys ++ (x ∷ []))) (chain t e)
one_further t ys x a b e p q = q ∙ ap (drop 1) p ∙ drop-drop 1 (length ys) _ ∙ ap (λ n. drop n (chain t e)) (sym (length-append ys (x ∷ [])))

pub returns : goal.returns
returns c =
    let t = reverse c.args.self.now.entries in
    let J : List ℕ → Option ℕ → Type 0 = λ ys a. chain t (reach a) ≡ drop (length ys) (chain t (reach c.args.self.now.env)) in
    let all = fold_over nat_range_steps (λ (x : ℕ). x) _ J _ (λ ys a x b f' j k. (one_further t ys x (reach a) (reach b) _ j (search rules), search rules)) _ (range_with_len 0 c.args.newer) _ _ (YieldsList-from_range 0 c.args.newer c.args.newer refl (omega arith)).runs refl c.fold.ensures.ran in
    rw length-range_with_len at all
