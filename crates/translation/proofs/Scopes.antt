-- What is visible, over calls and marks.
use Rattle.std.proofs.Common.{◌≡◌, ℕ, ◌+◌, ◌≤◌, List, [], ◌∷◌, ◌++◌, length, take, reverse, sym, ap, ◌∙◌, subst, arith, length-append}
use Rattle.std.proofs.lemmas.List.{take_all, take-take, take-append-le}
use Rattle.language.specs.declared.name.Entry.{Entry}
use Rattle.translation.specs.declared.scope.Scope.{Scope}
use Rattle.translation.specs.declared.translator.Translator.{Translator}
use Rattle.translation.specs.Held.{visible, Older, Bound}
use Rattle.translation.specs.Translated.{Restored}

pub bound : {s t : Scope} {e : Entry} → t.entries ≡ s.entries ++ (e ∷ []) → reverse t.entries ≡ e ∷ reverse s.entries → Bound s t e
unfolding visible
bound {s} {t} {e} h r =
    let l : length t.entries ≡ length s.entries + 1 = ap length h ∙ length-append s.entries (e ∷ []) in
    let w : length s.entries ≤ length s.entries = omega arith in
    record {
      older = record {
        count = omega arith;
        kept = ap (take (length s.entries)) h ∙ take-append-le (length s.entries) s.entries (e ∷ []) w ∙ take_all (length s.entries) s.entries w;
      };
      seen = r;
      more = omega arith;
    }

pub older_same : {s t : Scope} → t ≡ s → Older s t
older_same {s} {t} e =
    let w : length s.entries ≤ length s.entries = omega arith in
    let same : Older s s = record { count = w; kept = take_all (length s.entries) s.entries w } in
    subst (Older s) (sym e) same

pub older_trans : {s t u : Scope} → Older s t → Older t u → Older s u
older_trans {s} {t} {u} p q = record {
  count = omega (arith, p.count, q.count);
  kept = sym (take-take (length s.entries) (length t.entries) u.entries p.count) ∙ ap (take (length s.entries)) q.kept ∙ p.kept;
}

-- a mark restores what was visible when it was set
pub restored : {s : Scope} {n : ℕ} {t u : Translator} → n ≡ length s.entries → Older s t.scope → Restored n t u → u.scope ≡ s
restored {s} {n} {t} {u} e p r =
    let entries : u.scope.entries ≡ s.entries = r.entries ∙ ap (λ (k : ℕ). take k t.scope.entries) e ∙ p.kept in
    ap (λ (es : List Entry). let s : Scope = record { entries = es } in s) entries
