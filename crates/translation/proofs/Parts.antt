-- The translation of a child, said of the tree, the names and the position of its node.
use Rattle.std.proofs.Common.{◌≡◌, ℕ, ◌+◌, ◌*◌, ◌<◌, ◌≤◌, List, [], length, Ok, Err, Result, sym, ap, ◌∙◌, subst, arith, length-append}
use Rattle.std.specs.Result.{result_and, IsErrAnd}
use Rattle.std.proofs.lemmas.Result.{err_from_is_err_and}
use Rattle.vocabulary.specs.declared.code.Word.{Word}
use Rattle.vocabulary.specs.declared.node.Node.{Node}
use Rattle.vocabulary.specs.declared.refusal.Refusal.{Refusal}
use Rattle.vocabulary.specs.Refusals.{Verdict}
use Rattle.language.specs.declared.name.Entry.{Entry}
use Rattle.language.specs.Names.{names_e, names_c, names_d}
use Rattle.language.specs.Reading.{tree_e, tree_c, tree_d}
use Rattle.language.specs.Scope.{scope_after}
use Rattle.language.specs.Sound.{LowerE, LowerC, LowerD, IsE, IsC, IsD}
use Rattle.language.specs.Translation.{plain_code, plain_end, code_e, code_c, code_d, behind_e, behind_c, behind_d}
use Rattle.language.specs.Tree.{Expression, Command, Declaration, size_e, size_c, size_d}
use Rattle.language.proofs.Lengths.{few_e, few_c, few_d}
use Rattle.translation.specs.declared.translator.Translator.{Translator}
use Rattle.translation.specs.declared.writer.Writer.{Writer}
use Rattle.translation.specs.Held.{visible, Added, Older}
use Rattle.translation.specs.Translated.{nodes, next, ReadyE, ReadyC, ReadyD, Wrote, Translated, TranslatedE, TranslatedPlain, TranslatedC, TranslatedD, Declared}
use Rattle.translation.proofs.Writing.{counted}

module _ (t : Translator) {u : Translator} {n a : ℕ} (on : nodes u ≡ nodes t) (h : n < length (nodes t)) where
  -- a child is ready where its tree has room
  pub ready_e : LowerE (nodes t) n a → next u + 3 * size_e (tree_e (nodes t) a) ≤ 1537 → ReadyE u a
  ready_e (l, s) r =
      let P : List Node → Type 0 = λ ns. (a < length ns) × IsE ns a × (next u + 3 * size_e (tree_e ns a) ≤ 1537) in
      let w : P (nodes t) = (omega arith, s, r) in
      let v = subst P (sym on) w in
      record { here = v.0; sort = v.1; room = v.2 }

  pub ready_c : LowerC (nodes t) n a → next u + 3 * size_c (tree_c (nodes t) a) ≤ 1537 → length u.scope.entries + size_c (tree_c (nodes t) a) ≤ 512 → ReadyC u a
  ready_c (l, s) r m =
      let P : List Node → Type 0 = λ ns. (a < length ns) × IsC ns a × (next u + 3 * size_c (tree_c ns a) ≤ 1537) × (length u.scope.entries + size_c (tree_c ns a) ≤ 512) in
      let w : P (nodes t) = (omega arith, s, r, m) in
      let v = subst P (sym on) w in
      record { here = v.0; sort = v.1; room = v.2; names = v.3 }

  pub ready_d : LowerD (nodes t) n a → next u + 3 * size_d (tree_d (nodes t) a) ≤ 1537 → length u.scope.entries + size_d (tree_d (nodes t) a) ≤ 512 → ReadyD u a
  ready_d (l, s) r m =
      let P : List Node → Type 0 = λ ns. (a < length ns) × IsD ns a × (next u + 3 * size_d (tree_d ns a) ≤ 1537) × (length u.scope.entries + size_d (tree_d ns a) ≤ 512) in
      let w : P (nodes t) = (omega arith, s, r, m) in
      let v = subst P (sym on) w in
      record { here = v.0; sort = v.1; room = v.2; names = v.3 }

-- the verdict of a child, and its code, where the names sc are visible and the next position is p
module _ {ns : List Node} {u v : Translator} {r : Verdict} {sc : List Entry} {p : ℕ} (a : ℕ) (on : nodes u ≡ ns) (seen : visible u.scope ≡ sc) (at : next u ≡ p) where
  pub part_e : TranslatedE (tree_e (nodes u) a) u v r → Translated (names_e (tree_e ns a) sc) (code_e (tree_e ns a) sc p) (behind_e (tree_e ns a) p) u v r
  part_e q =
      let e = subst (λ (ns : List Node). TranslatedE (tree_e ns a) u v r) on q in
      let t = tree_e ns a in
      subst (λ (p : ℕ). Translated (names_e t sc) (code_e t sc p) (behind_e t p) u v r) at
      (subst (λ (sc : List Entry). Translated (names_e t sc) (code_e t sc (next u)) (behind_e t (next u)) u v r) seen e.is)

  pub part_plain : TranslatedPlain (tree_e (nodes u) a) u v r → Translated (names_e (tree_e ns a) sc) (plain_code (tree_e ns a) (code_e (tree_e ns a) sc p)) (plain_end (tree_e ns a) (behind_e (tree_e ns a) p)) u v r
  part_plain q =
      let e = subst (λ (ns : List Node). TranslatedPlain (tree_e ns a) u v r) on q in
      let t = tree_e ns a in
      subst (λ (p : ℕ). Translated (names_e t sc) (plain_code t (code_e t sc p)) (plain_end t (behind_e t p)) u v r) at
      (subst (λ (sc : List Entry). Translated (names_e t sc) (plain_code t (code_e t sc (next u))) (plain_end t (behind_e t (next u))) u v r) seen e.is)

  pub part_c : TranslatedC (tree_c (nodes u) a) u v r → Translated (names_c (tree_c ns a) sc) (code_c (tree_c ns a) sc p) (behind_c (tree_c ns a) p) u v r
  part_c q =
      let e = subst (λ (ns : List Node). TranslatedC (tree_c ns a) u v r) on q in
      let t = tree_c ns a in
      subst (λ (p : ℕ). Translated (names_c t sc) (code_c t sc p) (behind_c t p) u v r) at
      (subst (λ (sc : List Entry). Translated (names_c t sc) (code_c t sc (next u)) (behind_c t (next u)) u v r) seen e.is)

-- a declaration that is accepted
pub record Declares (d : Declaration) (sc : List Entry) (p : ℕ) (t u : Translator) : Type 0 where
  pub answer : Ok tt ≡ names_d d sc
  pub wrote : Added t.code u.code (code_d d sc p) (behind_d d p)
  pub seen : visible u.scope ≡ scope_after d sc

module _ {ns : List Node} {u v : Translator} {sc : List Entry} (a : ℕ) (on : nodes u ≡ ns) (seen : visible u.scope ≡ sc) where
  pub part_d : {p : ℕ} → next u ≡ p → TranslatedD (tree_d (nodes u) a) u v (Ok tt) → Declares (tree_d ns a) sc p u v
  part_d {p} at q =
      let e = subst (λ (ns : List Node). TranslatedD (tree_d ns a) u v (Ok tt)) on q in
      let t = tree_d ns a in
      let w : Declares t (visible u.scope) (next u) u v = record { answer = e.answer; wrote = e.wrote; seen = e.declared.0 } in
      subst (λ (p : ℕ). Declares t sc p u v) at (subst (λ (sc : List Entry). Declares t sc (next u) u v) seen w)

  -- its verdict, refused too
  pub verdict_d : {r : Verdict} → TranslatedD (tree_d (nodes u) a) u v r → r ≡ names_d (tree_d ns a) sc
  verdict_d q = q.answer ∙ ap (λ (ns : List Node). names_d (tree_d ns a) (visible u.scope)) on ∙ ap (names_d (tree_d ns a)) seen

-- three words are room enough for each node
pub end_e : {e : Expression} {t u : Translator} → TranslatedE e t u (Ok tt) → next u < next t + 3 * size_e e
end_e {e} {t} q = omega (arith, counted q.is.wrote, few_e e (visible t.scope) (next t))

pub end_plain : {e : Expression} {t u : Translator} → TranslatedPlain e t u (Ok tt) → next u ≤ next t + 3 * size_e e
end_plain {e} {t} q = omega (arith, simp length-append at (counted q.is.wrote), few_e e (visible t.scope) (next t))

pub end_c : {e : Command} {t u : Translator} → TranslatedC e t u (Ok tt) → next u ≤ next t + 3 * size_c e
end_c {e} {t} q = omega (arith, counted q.is.wrote, few_c e (visible t.scope) (next t))

pub end_d : {e : Declaration} {t u : Translator} → TranslatedD e t u (Ok tt) → next u ≤ next t + 3 * size_d e
end_d {e} {t} q = omega (arith, counted q.wrote, few_d e (visible t.scope) (next t))

pub some_e : (t : Expression) → 1 ≤ size_e t
some_e t = omega (arith, few_e t [] 0)

-- the second verdict, where the first accepts; the first, where it refuses
pub second : {u v w : Verdict} → Ok tt ≡ u → w ≡ v → w ≡ result_and u v
second {u} {v} {w} p q = q ∙ ap (λ (k : Verdict). result_and k v) p

pub first : {u : Verdict} {x : Refusal} (v : Verdict) → Err x ≡ u → Err x ≡ result_and u v
first v p = ap (λ (k : Verdict). result_and k v) p

-- a refusal that goes on by `?` is the same refusal
pub passed : {T : Type 0} {x : Refusal} (r : Result T Refusal) → IsErrAnd r (λ y. y ≡ x) → r ≡ Err x
passed r e = let w = err_from_is_err_and r e in w.1 ∙ ap Err w.2

-- a refusal that goes on by `?`, where it is the verdict
pub refused : {v : Verdict} {ws : List Word} {p : ℕ} {t u : Translator} {x : Refusal} (r : Verdict) → IsErrAnd r (λ y. y ≡ x) → Err x ≡ v → u.scope ≡ t.scope → nodes u ≡ nodes t → Translated v ws p t u r
refused {ws = ws} {p} {t} {u} {x} r e h s o =
    let i : r ≡ Err x = passed r e in
    record { answer = i ∙ h; wrote = subst (λ (w : Verdict). Wrote t.code u.code ws p w) (sym i) tt; same = s; on = o }

-- the same node, read as a tree
pub same_e : {e f : Expression} {t u : Translator} {r : Verdict} → e ≡ f → TranslatedE f t u r → TranslatedE e t u r
same_e {t = t} {u} {r} i h = subst (λ (x : Expression). TranslatedE x t u r) (sym i) h

pub same_c : {e f : Command} {t u : Translator} {r : Verdict} → e ≡ f → TranslatedC f t u r → TranslatedC e t u r
same_c {t = t} {u} {r} i h = subst (λ (x : Command). TranslatedC x t u r) (sym i) h

pub same_d : {e f : Declaration} {t u : Translator} {r : Verdict} → e ≡ f → TranslatedD f t u r → TranslatedD e t u r
same_d {t = t} {u} {r} i h = subst (λ (x : Declaration). TranslatedD x t u r) (sym i) h

pub refused_e : {e f : Expression} {t u : Translator} {x : Refusal} (r : Verdict) → IsErrAnd r (λ y. y ≡ x) → e ≡ f → Err x ≡ names_e f (visible t.scope) → u.scope ≡ t.scope → nodes u ≡ nodes t → TranslatedE e t u r
refused_e {t = t} r i k h s o = record { is = refused r i (h ∙ sym (ap (λ (w : Expression). names_e w (visible t.scope)) k)) s o }

pub refused_c : {e f : Command} {t u : Translator} {x : Refusal} (r : Verdict) → IsErrAnd r (λ y. y ≡ x) → e ≡ f → Err x ≡ names_c f (visible t.scope) → u.scope ≡ t.scope → nodes u ≡ nodes t → TranslatedC e t u r
refused_c {t = t} r i k h s o = record { is = refused r i (h ∙ sym (ap (λ (w : Command). names_c w (visible t.scope)) k)) s o }

pub refused_d : {e f : Declaration} {t u : Translator} {x : Refusal} (r : Verdict) → IsErrAnd r (λ y. y ≡ x) → e ≡ f → Err x ≡ names_d f (visible t.scope) → Older t.scope u.scope → nodes u ≡ nodes t → TranslatedD e t u r
refused_d {e} {t = t} {u} {x} r i k h s o =
    let a : r ≡ Err x = passed r i in
    record {
      answer = a ∙ h ∙ sym (ap (λ (w : Declaration). names_d w (visible t.scope)) k);
      wrote = subst (λ (w : Verdict). Wrote t.code u.code (code_d e (visible t.scope) (next t)) (behind_d e (next t)) w) (sym a) tt;
      older = s;
      declared = subst (λ (w : Verdict). Declared t.scope u.scope e w) (sym a) tt;
      on = o;
    }

-- the same translation with other code
abbrev pub with_code : Translator → Writer → Translator
with_code t c = record { shaped = t.shaped; code = c; scope = t.scope }
