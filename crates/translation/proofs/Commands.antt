-- Each form of command, from its parts.
use Rattle.std.proofs.Common.{◌≡◌, ℕ, suc, List, ◌++◌, length, Ok, Err, sym, refl, ap, ◌∙◌, subst}
use Rattle.vocabulary.specs.declared.code.Instruction.TheVariants.{JumpFalse, Jump, IsLoc, Store, Put, Enter, Leave}
use Rattle.vocabulary.specs.declared.code.Word.{Word}
use Rattle.vocabulary.specs.Refusals.{Verdict}
use Rattle.language.specs.Names.{names_c}
use Rattle.language.specs.Reading.{tree_e, tree_c, tree_d}
use Rattle.language.specs.Translation.{one, word, plain_code, code_e, code_c, behind_e, behind_c}
use Rattle.language.specs.Tree.Command.{assign, output, when, while, block, sequence}
use Rattle.translation.specs.declared.translator.Translator.{Translator}
use Rattle.translation.specs.declared.writer.Gap.{Gap}
use Rattle.translation.specs.declared.writer.Writer.{Writer}
use Rattle.translation.specs.Held.{text, visible, Added, Aimed, Older, Reserved}
use Rattle.translation.specs.Translated.{nodes, next, Restored, Wrote, Translated, TranslatedE, TranslatedPlain, TranslatedC, TranslatedD}
use Rattle.translation.proofs.Parts.{part_plain, part_c, part_d, second, with_code}
use Rattle.translation.proofs.Scopes.{older_same, older_trans, restored}
use Rattle.translation.proofs.Writing.{added_then, step, branched, looped}

wrote_then : {c d : Writer} (e : Writer) {x : List Word} (y : List Word) {p : ℕ} (q : ℕ) (r : Verdict) → Added c d x p → Wrote d e y q r → Wrote c e (x ++ y) q r
wrote_then e y q (Ok _) a b = added_then a b
wrote_then e y q (Err _) a b = tt

recoded : {c d e : Writer} {ws : List Word} {p : ℕ} → e ≡ d → Added c d ws p → Added c e ws p
recoded {c} {ws = ws} {p} i h = subst (λ (x : Writer). Added c x ws p) (sym i) h

module _ {t : Translator} {n : ℕ} where
  pub assign_done : (a b : ℕ) {u v : Translator} {d e : Writer} → TranslatedE (tree_e (nodes t) a) t u (Ok tt) → Added u.code d (one IsLoc n) (suc (next u)) → TranslatedPlain (tree_e (nodes u) b) (with_code u d) v (Ok tt) → Added v.code e (one Store n) (suc (next v))
      → TranslatedC (assign n (tree_e (nodes t) a) (tree_e (nodes t) b)) t (with_code v e) (Ok tt)
  unfolding names_c
  assign_done a b p A q B =
      let A' = step p.is.wrote.end A in
      let q' = part_plain b p.is.on (ap visible p.is.same) A'.end q in
      record { is = record { answer = second p.is.answer q'.answer; wrote = added_then p.is.wrote (added_then A' (added_then q'.wrote (step q'.wrote.end B))); same = q'.same ∙ p.is.same; on = q'.on ∙ p.is.on } }

  pub output_done : (a : ℕ) {u : Translator} {d : Writer} → TranslatedPlain (tree_e (nodes t) a) t u (Ok tt) → Added u.code d (one Put n) (suc (next u)) → TranslatedC (output n (tree_e (nodes t) a)) t (with_code u d) (Ok tt)
  unfolding names_c
  output_done a p A = record { is = record { answer = p.is.answer; wrote = added_then p.is.wrote (step p.is.wrote.end A); same = p.is.same; on = p.is.on } }

  pub when_done : (a b c : ℕ) {u v w : Translator} {d e f g : Writer} {k k' : Gap} {l m : ℕ} → TranslatedPlain (tree_e (nodes t) a) t u (Ok tt) → Reserved u.code d n k → TranslatedC (tree_c (nodes u) b) (with_code u d) v (Ok tt) → Reserved v.code e n k'
      → l ≡ length (text e) → Aimed e f k.at (word (JumpFalse l) k.node) → TranslatedC (tree_c (nodes v) c) (with_code v f) w (Ok tt) → m ≡ length (text w.code) → Aimed w.code g k'.at (word (Jump m) k'.node)
      → TranslatedC (when n (tree_e (nodes t) a) (tree_c (nodes t) b) (tree_c (nodes t) c)) t (with_code w g) (Ok tt)
  unfolding names_c
  when_done a b c p R q S i A r j B =
      let q' = part_c b p.is.on (ap visible p.is.same) (R.added.end ∙ ap suc p.is.wrote.end) q in
      let r' = part_c c (q'.on ∙ p.is.on) (ap visible (q'.same ∙ p.is.same)) (A.end ∙ S.added.end ∙ ap suc q'.wrote.end) r in
      record {
        is = record {
          answer = second p.is.answer (second q'.answer r'.answer);
          wrote = branched p.is.wrote R q'.wrote S i A r'.wrote j B;
          same = r'.same ∙ q'.same ∙ p.is.same;
          on = r'.on ∙ q'.on ∙ p.is.on;
        };
      }

  pub while_done : (a b : ℕ) {u v : Translator} {d e f : Writer} {k : Gap} {l m : ℕ} → m ≡ next t → TranslatedPlain (tree_e (nodes t) a) t u (Ok tt) → Reserved u.code d n k → TranslatedC (tree_c (nodes u) b) (with_code u d) v (Ok tt)
      → Added v.code e (one (Jump m) n) (suc (next v)) → l ≡ length (text e) → Aimed e f k.at (word (JumpFalse l) k.node) → TranslatedC (while n (tree_e (nodes t) a) (tree_c (nodes t) b)) t (with_code v f) (Ok tt)
  unfolding names_c
  while_done a b {f = f} s p R q B i A =
      let q' = part_c b p.is.on (ap visible p.is.same) (R.added.end ∙ ap suc p.is.wrote.end) q in
      let x = tree_e (nodes t) a in
      let y = tree_c (nodes t) b in
      let sc = visible t.scope in
      let at_y = suc (suc (behind_e x (next t))) in
      let T : ℕ → Type 0 = λ m. Added t.code f (plain_code x (code_e x sc (next t)) ++ (one (JumpFalse (suc (behind_c y at_y))) n ++ (code_c y sc at_y ++ one (Jump m) n))) (suc (behind_c y at_y)) in
      record {
        is = record {
          answer = second p.is.answer q'.answer;
          wrote = subst T s (looped p.is.wrote R q'.wrote B i A);
          same = q'.same ∙ p.is.same;
          on = q'.on ∙ p.is.on;
        };
      }

  pub sequence_done : (a b : ℕ) {u v : Translator} (r : Verdict) → TranslatedC (tree_c (nodes t) a) t u (Ok tt) → TranslatedC (tree_c (nodes u) b) u v r → TranslatedC (sequence n (tree_c (nodes t) a) (tree_c (nodes t) b)) t v r
  unfolding names_c
  sequence_done a b r p q =
      let q' = part_c b p.is.on (ap visible p.is.same) p.is.wrote.end q in
      record { is = record { answer = second p.is.answer q'.answer; wrote = wrote_then _ _ _ r p.is.wrote q'.wrote; same = q'.same ∙ p.is.same; on = q'.on ∙ p.is.on } }

  pub block_done : (a b : ℕ) {u v x : Translator} {d e : Writer} {k : ℕ} → Added t.code d (one Enter n) (suc (next t)) → TranslatedD (tree_d (nodes t) a) (with_code t d) u (Ok tt) → TranslatedC (tree_c (nodes u) b) u v (Ok tt) → Added v.code e (one Leave n) (suc (next v))
      → k ≡ length t.scope.entries → Restored k (with_code v e) x → TranslatedC (block n (tree_d (nodes t) a) (tree_c (nodes t) b)) t x (Ok tt)
  unfolding names_c
  block_done a b A p q B i R =
      let p' = part_d a refl refl A.end p in
      let q' = part_c b p.on p'.seen p'.wrote.end q in
      let all = added_then A (added_then p'.wrote (added_then q'.wrote (step q'.wrote.end B))) in
      record {
        is = record {
          answer = second p'.answer q'.answer;
          wrote = recoded R.code all;
          same = restored i (older_trans p.older (older_same q'.same)) R;
          on = R.on ∙ q'.on ∙ p.on;
        };
      }

-- a mark set at t and gone at x leaves what was done between, but for the names
pub unmarked : {v : Verdict} {ws : List Word} {p k : ℕ} {t u w x : Translator} {r : Verdict} → u.code ≡ t.code → nodes u ≡ nodes t → Older t.scope u.scope → Translated v ws p u w r → k ≡ length t.scope.entries → Restored k w x → Translated v ws p t x r
unmarked {ws = ws} {p} {t = t} {u} {w} {x} {r} e on o q i R = record {
  answer = q.answer;
  wrote = subst (λ (c : Writer). Wrote c x.code ws p r) e (subst (λ (d : Writer). Wrote u.code d ws p r) (sym R.code) q.wrote);
  same = restored i (older_trans o (older_same q.same)) R;
  on = R.on ∙ q.on ∙ on;
}
