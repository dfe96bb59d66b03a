-- One writing step after another, and jumps that are aimed once what they jump over is written.
use Rattle.std.proofs.Common.{◌≡◌, ℕ, suc, ◌+◌, List, ◌∷◌, ◌++◌, length, set, sym, ap, ◌∙◌, subst, append_assoc, arith, length-append}
use Rattle.std.proofs.lemmas.List.{set_at}
use Rattle.vocabulary.specs.declared.code.Instruction.{Instruction}
use Rattle.vocabulary.specs.declared.code.Instruction.TheVariants.{Halt, JumpFalse, Jump, Ret, Clos}
use Rattle.vocabulary.specs.declared.code.Word.{Word}
use Rattle.language.specs.Translation.{one, word}
use Rattle.translation.specs.declared.writer.Gap.{Gap}
use Rattle.translation.specs.declared.writer.Writer.{Writer}
use Rattle.translation.specs.Held.{text, Added, Aimed, Reserved}

pub added_then : {c d e : Writer} {x y : List Word} {p q : ℕ} → Added c d x p → Added d e y q → Added c e (x ++ y) q
added_then {c} {d} {e} {x} {y} a b = record { words = b.words ∙ ap (λ (t : List Word). t ++ y) a.words ∙ append_assoc (text c) x y; end = b.end }

pub counted : {c d : Writer} {x : List Word} {p : ℕ} → Added c d x p → length (text d) ≡ length (text c) + length x
counted {c} {x = x} a = ap length a.words ∙ length-append (text c) x

-- another word in place of the one behind x
replaced : {c g h : Writer} {p k : ℕ} {v : Word} (x y : List Word) (w : Word) → Added c g (x ++ (w ∷ y)) p → k ≡ length (text c) + length x → Aimed g h k v → Added c h (x ++ (v ∷ y)) p
replaced {c} {g} {h} {k = k} {v} x y w a e m =
    let l : length (text c ++ x) ≡ k = length-append (text c) x ∙ sym e in
    record {
      words = m.words ∙ ap (λ (t : List Word). set t k v) (a.words ∙ sym (append_assoc (text c) x (w ∷ y))) ∙ set_at (text c ++ x) w y v k l ∙ append_assoc (text c) x (v ∷ y);
      end = m.end ∙ a.end;
    }

-- one word more
pub step : {d e : Writer} {ws : List Word} {p : ℕ} → length (text d) ≡ p → Added d e ws (suc (length (text d))) → Added d e ws (suc p)
step i w = record { words = w.words; end = w.end ∙ ap suc i }

-- a jump in the place that was left for it behind x, once y stands behind it
pub jumped : {c d e g h : Writer} {x y : List Word} {j : Instruction} {n p r : ℕ} {k : Gap} → Added c d x p → Reserved d e n k → Added e g y r → Aimed g h k.at (word j k.node) → Added c h (x ++ (one j n ++ y)) r
jumped {g = g} {h} {x} {y} {j} {n = n} {k = k} a b i m =
    replaced x y (word Halt n) (added_then a (added_then b.added i)) (b.here ∙ counted a) (subst (λ (n : ℕ). Aimed g h k.at (word j n)) b.of_node m)

-- the same with two places, the second of which is filled when z stands behind it
pub branched : {c d e f g h i j : Writer} {x y z : List Word} {n l m p q r : ℕ} {k k' : Gap} → Added c d x p → Reserved d e n k → Added e f y q → Reserved f g n k' → l ≡ length (text g)
    → Aimed g h k.at (word (JumpFalse l) k.node) → Added h i z r → m ≡ length (text i) → Aimed i j k'.at (word (Jump m) k'.node) → Added c j (x ++ (one (JumpFalse (suc q)) n ++ (y ++ (one (Jump r) n ++ z)))) r
branched {c} {f = f} {i = i} {j} {x} {y} {z} {n} {l} {m} {q = q} {r} {k} {k'} a b u v e A s o B =
    let at_y : l ≡ suc q = e ∙ v.added.end ∙ ap suc u.end in
    let first = subst (λ (t : ℕ). Added c i ((x ++ (one (JumpFalse t) n ++ (y ++ one Halt n))) ++ z) r) at_y (added_then (jumped a b (added_then u v.added) A) s) in
    let front = x ++ (one (JumpFalse (suc q)) n ++ y) in
    let regroup : (x ++ (one (JumpFalse (suc q)) n ++ (y ++ one Halt n))) ++ z ≡ front ++ (one Halt n ++ z) = simp append_assoc in
    let place : length (text f) ≡ length (text c) + length front =
    counted (added_then a (added_then b.added u)) ∙ ap (λ (t : ℕ). length (text c) + t) (length-append x (one Halt n ++ y) ∙ sym (length-append x (one (JumpFalse (suc q)) n ++ y))) in
    let B' = subst (λ (t : ℕ). Aimed i j k'.at (word (Jump t) n)) (o ∙ s.end) (subst (λ (t : ℕ). Aimed i j k'.at (word (Jump m) t)) v.of_node B) in
    let all = replaced front z (word Halt n) (subst (λ (ws : List Word). Added c i ws r) regroup first) (v.here ∙ place) B' in
    subst (λ (ws : List Word). Added c j ws r) (append_assoc x (one (JumpFalse (suc q)) n ++ y) (one (Jump r) n ++ z)) all

-- a loop: the test x, a jump out, the body y, and a jump back to m
pub looped : {c d e f g h : Writer} {x y : List Word} {n l m p q : ℕ} {k : Gap} → Added c d x p → Reserved d e n k → Added e f y q → Added f g (one (Jump m) n) (suc (length (text f))) → l ≡ length (text g)
    → Aimed g h k.at (word (JumpFalse l) k.node) → Added c h (x ++ (one (JumpFalse (suc q)) n ++ (y ++ one (Jump m) n))) (suc q)
looped {c} {h = h} {x} {y} {n} {m = m} {q = q} a b u v e A =
    let v' = step u.end v in
    subst (λ (t : ℕ). Added c h (x ++ (one (JumpFalse t) n ++ (y ++ one (Jump m) n))) (suc q)) (e ∙ v'.end) (jumped a b (added_then u v') A)

-- a routine: its closure, a jump past the body y, and a return
pub enclosed : {c d e f g h : Writer} {y : List Word} {n k m r : ℕ} {l : Gap} → k ≡ length (text c) + 2 → Added c d (one (Clos k) n) (suc (length (text c))) → Reserved d e n l
    → Added e f y r → Added f g (one Ret n) (suc (length (text f))) → m ≡ length (text g) → Aimed g h l.at (word (Jump m) l.node)
    → Added c h (one (Clos (suc (suc (length (text c))))) n ++ (one (Jump (suc r)) n ++ (y ++ one Ret n))) (suc r)
enclosed {c} {h = h} {y} {n} {k} {m} {r} i A b u v e X =
    let v' = step u.end v in
    let T : ℕ → ℕ → Type 0 = λ s t. Added c h (one (Clos s) n ++ (one (Jump t) n ++ (y ++ one Ret n))) (suc r) in
    let start : k ≡ suc (suc (length (text c))) = omega arith in
    subst (λ (s : ℕ). T s (suc r)) start (subst (T k) (e ∙ v'.end) (jumped A b (added_then u v') X))
