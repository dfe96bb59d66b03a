-- Each form of expression, from its parts.
use Rattle.std.proofs.Common.{◌≡◌, ℕ, suc, length, ℤ, Ok, sym, refl, ap, ◌∙◌, subst}
use Rattle.vocabulary.specs.declared.code.Instruction.TheVariants.{Num, Look, Deref, Op, JumpFalse, Jump}
use Rattle.vocabulary.specs.declared.code.Operation.{Operation}
use Rattle.language.specs.declared.name.Role.TheVariants.{Value}
use Rattle.language.specs.Names.{names_e}
use Rattle.language.specs.Reading.{tree_e}
use Rattle.language.specs.Scope.{place_of}
use Rattle.language.specs.Translation.{one, word, behind_e}
use Rattle.language.specs.Tree.{Expression, node_e}
use Rattle.language.specs.Tree.Expression.{number, name, operation, choice}
use Rattle.translation.specs.declared.translator.Translator.{Translator}
use Rattle.translation.specs.declared.writer.Gap.{Gap}
use Rattle.translation.specs.declared.writer.Writer.{Writer}
use Rattle.translation.specs.Held.{text, visible, Added, Aimed, Reserved, Resolved}
use Rattle.translation.specs.Translated.{nodes, next, TranslatedE, TranslatedPlain}
use Rattle.translation.proofs.Parts.{part_e, part_plain, second, with_code}
use Rattle.translation.proofs.Writing.{added_then, step, branched}

module _ {t : Translator} {n : ℕ} where
  pub number_done : {y z : ℤ} {d : Writer} → y ≡ z → Added t.code d (one (Num y) n) (suc (next t)) → TranslatedE (number n z) t (with_code t d) (Ok tt)
  unfolding names_e
  number_done {d = d} i w = record { is = record { answer = refl; wrote = subst (λ (z : ℤ). Added t.code d (one (Num z) n) (suc (next t))) i w; same = refl; on = refl } }

  pub name_done : (x : ℕ) {k : ℕ} {d : Writer} → Resolved n Value (place_of (visible t.scope) x) (Ok k) → Added t.code d (one (Look k) n) (suc (next t)) → TranslatedE (name n x) t (with_code t d) (Ok tt)
  unfolding names_e
  name_done x {d = d} (v, i) w = record { is = record { answer = sym v; wrote = subst (λ (j : ℕ). Added t.code d (one (Look j) n) (suc (next t))) i w; same = refl; on = refl } }

  pub plain_done : {e : Expression} {u : Translator} {d : Writer} → node_e e ≡ n → TranslatedE e t u (Ok tt) → Added u.code d (one Deref n) (suc (next u)) → TranslatedPlain e t (with_code u d) (Ok tt)
  plain_done {e} {u} {d} i p q =
      let W = subst (λ (k : ℕ). Added u.code d (one Deref k) (suc (behind_e e (next t)))) (sym i) (step p.is.wrote.end q) in
      record { is = record { answer = p.is.answer; wrote = added_then p.is.wrote W; same = p.is.same; on = p.is.on } }

  pub operation_done : (a b : ℕ) {o k : Operation} {u v : Translator} {d : Writer} → k ≡ o → TranslatedPlain (tree_e (nodes t) a) t u (Ok tt) → TranslatedPlain (tree_e (nodes u) b) u v (Ok tt) → Added v.code d (one (Op k) n) (suc (next v))
      → TranslatedE (operation n o (tree_e (nodes t) a) (tree_e (nodes t) b)) t (with_code v d) (Ok tt)
  unfolding names_e
  operation_done a b {u = u} {v} {d} i p q w =
      let q' = part_plain b p.is.on (ap visible p.is.same) p.is.wrote.end q in
      let W = step q'.wrote.end (subst (λ (k : Operation). Added v.code d (one (Op k) n) (suc (next v))) i w) in
      record { is = record { answer = second p.is.answer q'.answer; wrote = added_then p.is.wrote (added_then q'.wrote W); same = q'.same ∙ p.is.same; on = q'.on ∙ p.is.on } }

  pub choice_done : (a b c : ℕ) {u v w : Translator} {d e f g : Writer} {k k' : Gap} {l m : ℕ} → TranslatedPlain (tree_e (nodes t) a) t u (Ok tt) → Reserved u.code d n k → TranslatedE (tree_e (nodes u) b) (with_code u d) v (Ok tt) → Reserved v.code e n k'
      → l ≡ length (text e) → Aimed e f k.at (word (JumpFalse l) k.node) → TranslatedE (tree_e (nodes v) c) (with_code v f) w (Ok tt) → m ≡ length (text w.code) → Aimed w.code g k'.at (word (Jump m) k'.node)
      → TranslatedE (choice n (tree_e (nodes t) a) (tree_e (nodes t) b) (tree_e (nodes t) c)) t (with_code w g) (Ok tt)
  unfolding names_e
  choice_done a b c p R q S i A r j B =
      let q' = part_e b p.is.on (ap visible p.is.same) (R.added.end ∙ ap suc p.is.wrote.end) q in
      let r' = part_e c (q'.on ∙ p.is.on) (ap visible (q'.same ∙ p.is.same)) (A.end ∙ S.added.end ∙ ap suc q'.wrote.end) r in
      record {
        is = record {
          answer = second p.is.answer (second q'.answer r'.answer);
          wrote = branched p.is.wrote R q'.wrote S i A r'.wrote j B;
          same = r'.same ∙ q'.same ∙ p.is.same;
          on = r'.on ∙ q'.on ∙ p.is.on;
        };
      }
