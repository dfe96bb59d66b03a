-- Each form of declaration, from its parts.
use Rattle.std.proofs.Common.{◌≡◌, ℕ, suc, ◌+◌, ◌*◌, ◌<◌, ◌≤◌, ◌⊎◌, inl, inr, List, ◌∷◌, ◌++◌, length, Ok, Err, sym, refl, ap, ◌∙◌, subst, arith}
use Rattle.vocabulary.specs.declared.code.Instruction.{Instruction}
use Rattle.vocabulary.specs.declared.code.Instruction.TheVariants.{Jump, Ret, Bind, New, Clos}
use Rattle.vocabulary.specs.declared.node.Node.{Node}
use Rattle.vocabulary.specs.Refusals.{Verdict}
use Rattle.language.specs.declared.name.Entry.{Entry}
use Rattle.language.specs.declared.name.Role.{Role}
use Rattle.language.specs.declared.name.Role.TheVariants.{Value, Procedure, Function}
use Rattle.language.specs.Names.{names_e, names_d}
use Rattle.language.specs.Reading.{tree_e, tree_c, tree_d}
use Rattle.language.specs.Scope.{entry, scope_after, scope_inside}
use Rattle.language.specs.Sound.{LowerE, IsD}
use Rattle.language.specs.Table.{at}
use Rattle.language.specs.Translation.{one, word, plain_code, plain_end, code_e, code_d, behind_e, behind_d}
use Rattle.language.specs.Tree.{Expression, Command, Declaration, size_e, size_c, size_d}
use Rattle.language.specs.Tree.Command.{assign, output, when, while, block, sequence, procedure_call}
use Rattle.language.specs.Tree.Declaration.{constant, variable, procedure, function, pair}
use Rattle.language.proofs.Lengths.{few_e, few_c}
use Rattle.translation.specs.declared.scope.Scope.{Scope}
use Rattle.translation.specs.declared.translator.Translator.{Translator}
use Rattle.translation.specs.declared.writer.Gap.{Gap}
use Rattle.translation.specs.declared.writer.Writer.{Writer}
use Rattle.translation.specs.Held.{text, visible, Added, Aimed, Bound, Reserved}
use Rattle.translation.specs.Translated.{nodes, next, Encloses, Introduces, body_code, body_end, Restored, TranslatedE, TranslatedPlain, TranslatedC, TranslatedD, TranslatedBody}
use Rattle.translation.proofs.Commands.{unmarked}
use Rattle.translation.proofs.Forms.{at_d, sound_of}
use Rattle.translation.proofs.Parts.{part_e, part_c, part_d, verdict_d, second, with_code, some_e}
use Rattle.translation.proofs.Scopes.{older_trans, older_same}
use Rattle.translation.proofs.Writing.{added_then, step, enclosed}

pub pair_done : {t : Translator} {n : ℕ} (a b : ℕ) {u v : Translator} (r : Verdict) → TranslatedD (tree_d (nodes t) a) t u (Ok tt) → TranslatedD (tree_d (nodes u) b) u v r → TranslatedD (pair n (tree_d (nodes t) a) (tree_d (nodes t) b)) t v r
unfolding names_d
pair_done a b (Ok _) p q =
    let q' = part_d b p.on p.declared.0 p.wrote.end q in
    let s = ap (λ ns. size_d (tree_d ns b)) p.on in
    record {
      answer = second p.answer q'.answer;
      wrote = added_then p.wrote q'.wrote;
      older = older_trans p.older q.older;
      declared = (q'.seen, omega (arith, p.declared.1, q.declared.1, s));
      on = q.on ∙ p.on;
    }
pair_done a b (Err x) p q = record {
  answer = second p.answer (verdict_d b p.on p.declared.0 q);
  wrote = tt;
  older = older_trans p.older q.older;
  declared = tt;
  on = q.on ∙ p.on;
}

-- a constant or a variable, which differ in an instruction
pub record ValueTree (d : Declaration) (a : Expression) (x : ℕ) (i : Instruction) (n : ℕ) : Type 0 where
  pub size : size_d d ≡ suc (size_e a)
  pub names : (sc : List Entry) → names_d d sc ≡ names_e a sc
  pub code : (sc : List Entry) (p : ℕ) → code_d d sc p ≡ plain_code a (code_e a sc p) ++ one i n
  pub behind : (p : ℕ) → behind_d d p ≡ suc (plain_end a (behind_e a p))
  pub after : (sc : List Entry) → scope_after d sc ≡ entry x Value ∷ sc

constant_tree : (n x : ℕ) (a : Expression) → ValueTree (constant n x a) a x Bind n
unfolding names_d
constant_tree n x a = record { size = refl; names = λ sc. refl; code = λ sc p. refl; behind = λ p. refl; after = λ sc. refl }

variable_tree : (n x : ℕ) (a : Expression) → ValueTree (variable n x a) a x New n
unfolding names_d
variable_tree n x a = record { size = refl; names = λ sc. refl; code = λ sc p. refl; behind = λ p. refl; after = λ sc. refl }

-- a procedure or a function, which differ in their bodies
pub record RoutineTree (d : Declaration) (x : ℕ) (role : Role) (n : ℕ) : Type 0 where
  pub some : 2 ≤ size_d d
  pub few : (sc : List Entry) (p : ℕ) → length (body_code d sc p) + 3 ≤ 3 * size_d d
  pub code : (sc : List Entry) (p : ℕ) → code_d d sc p ≡ one (Clos (suc (suc p))) n ++ (one (Jump (suc (body_end d (suc (suc p))))) n ++ (body_code d sc (suc (suc p)) ++ one Ret n))
  pub behind : (p : ℕ) → behind_d d p ≡ suc (body_end d (suc (suc p)))
  pub after : (sc : List Entry) → scope_after d sc ≡ entry x role ∷ sc

some_c : (t : Command) → 1 ≤ size_c t
some_c (assign nd a b) = omega arith
some_c (output nd a) = omega arith
some_c (when nd a b c) = omega arith
some_c (while nd a b) = omega arith
some_c (block nd a b) = omega arith
some_c (sequence nd a b) = omega arith
some_c (procedure_call nd f a) = omega arith

procedure_tree : (n x : ℕ) (a : Command) (y : ℕ) → RoutineTree (procedure n x a y) x Procedure n
procedure_tree n x a y = record { some = omega (arith, some_c a); few = λ sc p. omega (arith, few_c a (scope_inside y sc) p); code = λ sc p. refl; behind = λ p. refl; after = λ sc. refl }

function_tree : (n x : ℕ) (a : Expression) (y : ℕ) → RoutineTree (function n x a y) x Function n
function_tree n x a y = record { some = omega (arith, some_e a); few = λ sc p. omega (arith, few_e a (scope_inside y sc) p); code = λ sc p. refl; behind = λ p. refl; after = λ sc. refl }

module _ (t : Translator) {n : ℕ} {d : Node} (e : d ≡ at (nodes t) n) (h : n < length (nodes t)) (s : IsD (nodes t) n) where
  pub at_value : {i : Instruction} → Introduces i (at (nodes t) n).kind → ValueTree (tree_d (nodes t) n) (tree_e (nodes t) d.a) d.tag i n × LowerE (nodes t) n d.a
  at_value {i} (inl (j, k)) =
      let r = at_d t e k h s in
      let a = tree_e (nodes t) d.a in
      (subst (λ (w : Declaration). ValueTree w a d.tag i n) (sym r.0) (subst (λ (i : Instruction). ValueTree (constant n d.tag a) a d.tag i n) (sym j) (constant_tree n d.tag a)), r.1)
  at_value {i} (inr (j, k)) =
      let r = at_d t e k h s in
      let a = tree_e (nodes t) d.a in
      (subst (λ (w : Declaration). ValueTree w a d.tag i n) (sym r.0) (subst (λ (i : Instruction). ValueTree (variable n d.tag a) a d.tag i n) (sym j) (variable_tree n d.tag a)), r.1)

  pub at_routine : {role : Role} → Encloses role (at (nodes t) n).kind → RoutineTree (tree_d (nodes t) n) d.tag role n
  at_routine {role} (inl (j, k)) =
      let r = at_d t e k h s in
      let a = tree_c (nodes t) d.a in
      subst (λ (w : Declaration). RoutineTree w d.tag role n) (sym r.0) (subst (λ (i : Role). RoutineTree (procedure n d.tag a d.c) d.tag i n) (sym j) (procedure_tree n d.tag a d.c))
  at_routine {role} (inr (j, k)) =
      let r = at_d t e k h s in
      let a = tree_e (nodes t) d.a in
      subst (λ (w : Declaration). RoutineTree w d.tag role n) (sym r.0) (subst (λ (i : Role). RoutineTree (function n d.tag a d.c) d.tag i n) (sym j) (function_tree n d.tag a d.c))

-- the same translation with other code and other names
abbrev pub with_both : Translator → Writer → Scope → Translator
with_both t c s = record { shaped = t.shaped; code = c; scope = s }

pub value_done : {t u : Translator} {w : Declaration} {a : Expression} {n x : ℕ} {i : Instruction} {d : Writer} {s : Scope} → ValueTree w a x i n → TranslatedPlain a t u (Ok tt) → Added u.code d (one i n) (suc (next u)) → Bound u.scope s (entry x Value) → TranslatedD w t (with_both u d s) (Ok tt)
value_done {t} {w = w} {a} {x = x} {d = d} v p A b =
    let sc = visible t.scope in
    let all = added_then p.is.wrote (step p.is.wrote.end A) in
    record {
      answer = p.is.answer ∙ sym (v.names sc);
      wrote = subst (λ (q : ℕ). Added t.code d (code_d w sc (next t)) q) (sym (v.behind (next t))) (subst (λ ws. Added t.code d ws (suc (plain_end a (behind_e a (next t))))) (sym (v.code sc (next t))) all);
      older = older_trans (older_same p.is.same) b.older;
      declared = (b.seen ∙ ap (λ (s : Scope). entry x Value ∷ visible s) p.is.same ∙ sym (v.after sc), omega (arith, b.more, v.size, ap (λ (s : Scope). length s.entries) p.is.same));
      on = p.is.on;
    }

pub routine_done : {t u : Translator} {w : Declaration} {n x k m : ℕ} {role : Role} {l : Gap} {d e f g : Writer} {s : Scope} → RoutineTree w x role n → k ≡ next t + 2 → Added t.code d (one (Clos k) n) (suc (next t)) → Reserved d e n l → TranslatedBody w (with_code t e) u (Ok tt)
    → Added u.code f (one Ret n) (suc (next u)) → m ≡ length (text f) → Aimed f g l.at (word (Jump m) l.node) → Bound u.scope s (entry x role) → TranslatedD w t (with_both u g s) (Ok tt)
routine_done {t} {u} {w} {x = x} {role = role} {e = e} {g = g} v i A R q B j X b =
    let sc = visible t.scope in
    let at_body : length (text e) ≡ suc (suc (next t)) = R.added.end ∙ ap suc A.end in
    let body = subst (λ (p : ℕ). Added e u.code (body_code w sc p) (body_end w p)) at_body q.is.wrote in
    let all = enclosed i A R body B j X in
    record {
      answer = q.is.answer;
      wrote = subst (λ (q : ℕ). Added t.code g (code_d w sc (next t)) q) (sym (v.behind (next t))) (subst (λ ws. Added t.code g ws (suc (body_end w (suc (suc (next t)))))) (sym (v.code sc (next t))) all);
      older = older_trans (older_same q.is.same) b.older;
      declared = (b.seen ∙ ap (λ (s : Scope). entry x role ∷ visible s) q.is.same ∙ sym (v.after sc), omega (arith, b.more, v.some, ap (λ (s : Scope). length s.entries) q.is.same));
      on = q.is.on;
    }

-- which of the two it is
pub encloses_procedure : {role : Role} {k : ℕ} → role ≡ Procedure → Encloses role k → k ≡ 12
encloses_procedure e (inl (j, i)) = i
encloses_procedure {role} e (inr (j, i)) = absurd (let h : role ≡ Function = j in let x : ⊥ = cc in x)

pub encloses_function : {role : Role} {k : ℕ} → (role ≡ Value) ⊎ (role ≡ Function) → Encloses role k → k ≡ 13
encloses_function {role} (inl e) (inl (j, i)) = absurd (let h : role ≡ Procedure = j in let x : ⊥ = cc in x)
encloses_function {role} (inr e) (inl (j, i)) = absurd (let h : role ≡ Procedure = j in let x : ⊥ = cc in x)
encloses_function e (inr (j, i)) = i

-- a parameter's name has one byte
pub parameter : (t : Translator) {n : ℕ} {d : Node} {role : Role} → d ≡ at (nodes t) n → n < length (nodes t) → Encloses role (at (nodes t) n).kind → d.c < 256
parameter t {n} {d} e h (inl (j, i)) = subst (λ (d : Node). d.c < 256) (sym e) ((sound_of t).parameters n h (omega (arith, i)) (omega (arith, i)))
parameter t {n} {d} e h (inr (j, i)) = subst (λ (d : Node). d.c < 256) (sym e) ((sound_of t).parameters n h (omega (arith, i)) (omega (arith, i)))

module _ {t x : Translator} {n f y k : ℕ} {s : Scope} {r : Verdict} (a : ℕ) where
  pub procedure_body : {w : Translator} → Bound t.scope s (entry y Value) → TranslatedC (tree_c (nodes t) a) (with_both t t.code s) w r → k ≡ length t.scope.entries → Restored k w x → TranslatedBody (procedure n f (tree_c (nodes t) a) y) t x r
  unfolding names_d
  procedure_body b q i R = record { is = unmarked refl refl b.older (part_c a refl b.seen refl q) i R }

  pub function_body : {w : Translator} → Bound t.scope s (entry y Value) → TranslatedE (tree_e (nodes t) a) (with_both t t.code s) w r → k ≡ length t.scope.entries → Restored k w x → TranslatedBody (function n f (tree_e (nodes t) a) y) t x r
  unfolding names_d
  function_body b q i R = record { is = unmarked refl refl b.older (part_e a refl b.seen refl q) i R }

pub same_body : {e f : Declaration} {t u : Translator} {r : Verdict} → e ≡ f → TranslatedBody f t u r → TranslatedBody e t u r
same_body {t = t} {u} {r} i h = subst (λ (x : Declaration). TranslatedBody x t u r) (sym i) h
