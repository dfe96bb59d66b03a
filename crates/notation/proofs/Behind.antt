-- What stands behind the first words of a line: where its reader refuses it, nothing stands there.
use Rattle.std.proofs.Common.{◌≡◌, ℕ, ◌^◌, ◌<◌, ◌≤◌, List, [], ◌∷◌, map, length, drop, ℤ, Ok, Err, codes, Option, Result, MatchResult, IsOkAnd, IfErr, ◌≢◌, Vec, Global, vec_items, sym, refl, ap, ◌∙◌, subst, arith, w32, SFits}
use Rattle.std.specs.Str.Parse.{digits_value}
use Rattle.std.specs.List.{AllByRecursion}
use Rattle.vocabulary.specs.declared.item.Item.{Item}
use Rattle.ports.specs.declared.trace.Record.{Record}
use Rattle.ports.specs.Traces.{items_of}
use Rattle.notation.specs.declared.error.ReadError.{ReadError}
use Rattle.notation.specs.declared.error.ReadError.TheVariants.{Memory}
use Rattle.notation.specs.declared.plan.Line.{Line}
use Rattle.notation.specs.Hex.{Bytes, hex_text}
use Rattle.notation.specs.Lines.{Spoken, nothing, trace_feed, ramp_feed, record_strip, text_strip, loads, opens, rewinds, runs, reports, ItemRange, InRange, AreItems, Say, Reads, ReadsBehind, ReadsBytes, ReadsNumber, spoken, said}
use Rattle.notation.specs.Numbers.{Unsigned, Signed}
use Rattle.notation.specs.Words.{word, behind, Words}
use Rattle.notation.proofs.Figures.{signed_some}
use Rattle.notation.proofs.Heard.{heard, heard_is, unhex, at, item_in, signed_in}

-- what words say is what is heard in them
as_heard : (ws : List (List ℕ)) (s : Spoken) → InRange s → Say ws s → InRange (heard ws) × Say ws (heard ws)
as_heard ws s i y = let e = sym (heard_is ws s y) in (subst InRange e i, subst (Say ws) e y)

-- nothing within its ranges is said by these first words and the words of the rest
abbrev pub Unsaid : (List (List ℕ) → List (List ℕ)) → List ℕ → Type 0
Unsaid first rest = (s : Spoken) → InRange s → (ws : List (List ℕ)) → Words rest ws → Say (first ws) s → ⊥

-- no number up to `most` stands in the only word of the rest
abbrev pub NoNumber : ℕ → List ℕ → Type 0
NoNumber most rest = (n : ℕ) → n ≤ most → (w : List ℕ) → Words rest (w ∷ []) → Unsigned w n → ⊥

-- no items in their ranges stand in the rest
abbrev pub NoItems : List ℕ → Type 0
NoItems rest = (items : List Item) → AllByRecursion ItemRange items → (ws : List (List ℕ)) → Words rest ws → AreItems ws items → ⊥

abbrev pub NoBytes : List ℕ → Type 0
NoBytes rest = (bytes : List ℕ) → Bytes bytes → Words rest (hex_text bytes ∷ []) → ⊥

module _ (rest : List ℕ) where
  pub load_bad : NoBytes rest → Unsaid (λ ws. codes "load" ∷ ws) rest
  load_bad none s i ws w y = let p = as_heard (codes "load" ∷ ws) s i y in none (unhex (at ws 0)) p.0 (subst (Words rest) (ap (drop 1) p.1) w)

  pub open_bad : NoBytes rest → Unsaid (λ ws. codes "open" ∷ ws) rest
  open_bad none s i ws w y = let p = as_heard (codes "open" ∷ ws) s i y in none (unhex (at ws 0)) p.0 (subst (Words rest) (ap (drop 1) p.1) w)

  pub rewind_bad : (Words rest [] → ⊥) → Unsaid (λ ws. codes "rewind" ∷ ws) rest
  rewind_bad none s i ws w y = let p = as_heard (codes "rewind" ∷ ws) s i y in none (subst (Words rest) (ap (drop 1) p.1) w)

  pub report_bad : (Words rest [] → ⊥) → Unsaid (λ ws. codes "report" ∷ ws) rest
  report_bad none s i ws w y = let p = as_heard (codes "report" ∷ ws) s i y in none (subst (Words rest) (ap (drop 1) p.1) w)

  pub run_bad : NoNumber 4294967295 rest → Unsaid (λ ws. codes "run" ∷ ws) rest
  run_bad none s i ws w y =
      let p = as_heard (codes "run" ∷ ws) s i y in
      let h = p.0 in
      none (digits_value 10 (at ws 0)) (omega arith) p.1.0 (subst (Words rest) (ap (drop 1) p.1.1) w) p.1.2

  pub records_bad : NoNumber 18446744073709551615 rest → Unsaid (λ ws. codes "strip" ∷ codes "records" ∷ ws) rest
  records_bad none s i ws w y =
      let p = as_heard (codes "strip" ∷ codes "records" ∷ ws) s i y in
      let h = p.0 in
      none (digits_value 10 (at ws 0)) (omega arith) p.1.0 (subst (Words rest) (ap (drop 2) p.1.1) w) p.1.2

  pub text_bad : NoNumber 18446744073709551615 rest → Unsaid (λ ws. codes "strip" ∷ codes "text" ∷ ws) rest
  text_bad none s i ws w y =
      let p = as_heard (codes "strip" ∷ codes "text" ∷ ws) s i y in
      let h = p.0 in
      none (digits_value 10 (at ws 0)) (omega arith) p.1.0 (subst (Words rest) (ap (drop 2) p.1.1) w) p.1.2

  pub trace_bad : NoItems rest → Unsaid (λ ws. codes "feed" ∷ codes "trace" ∷ ws) rest
  trace_bad none s i ws w y =
      let p = as_heard (codes "feed" ∷ codes "trace" ∷ ws) s i y in
      none (map item_in ws) p.0 p.1.0 (subst (Words rest) (ap (drop 2) p.1.1) w) p.1.2

  abbrev Ramps : ℤ → ℤ → ℕ → Type 0
  Ramps start step count =
      (a : List ℕ) × (b : List ℕ) × (c : List ℕ) × Words rest (a ∷ b ∷ c ∷ []) × Signed a start × Signed b step × Unsigned c count

  pub ramp_bad : ((start step : ℤ) (count : ℕ) → SFits w32 start → SFits w32 step → count < 2 ^ 16 → Ramps start step count → ⊥) → Unsaid (λ ws. codes "feed" ∷ codes "ramp" ∷ ws) rest
  ramp_bad none s i ws w y =
      let p = as_heard (codes "feed" ∷ codes "ramp" ∷ ws) s i y in
      let q = p.1 in
      none (signed_in (at ws 0)) (signed_in (at ws 1)) (digits_value 10 (at ws 2)) p.0.0 p.0.1 p.0.2
      (q.0, q.1, q.2, subst (Words rest) (ap (drop 2) q.3) w, q.4, q.5, q.6)

  -- a word before the rest of the words
  first_of : (ws : List (List ℕ)) → Words rest ws → 0 < length (word rest) → (vs : List (List ℕ)) × (ws ≡ word rest ∷ vs) × Words (behind rest) vs
  first_of [] w some = let z : length (word rest) ≡ 0 = ap length w in absurd (omega arith)
  first_of (v ∷ vs) w some = (vs, ap (λ x. x ∷ vs) (sym w.0), w.2)

  pub unsaid_on : (first : List (List ℕ) → List (List ℕ)) (v : List ℕ) → word rest ≡ v → 0 < length v → Unsaid (λ ws. first (v ∷ ws)) (behind rest) → Unsaid first rest
  unsaid_on first v e some none s i ws w y =
      let f = first_of ws w (subst (λ x. 0 < length x) (sym e) some) in
      none s i f.0 f.2 (subst (λ x. Say (first x) s) (f.1 ∙ ap (λ x. x ∷ f.0) e) y)

  pub said_on : (first : List (List ℕ) → List (List ℕ)) (v : List ℕ) (s : Spoken) → word rest ≡ v → 0 < length v → (ws : List (List ℕ)) × Words (behind rest) ws × Say (first (v ∷ ws)) s → (ws : List (List ℕ)) × Words rest ws × Say (first ws) s
  said_on first v s e some p = (v ∷ p.0, (e, some, p.1), p.2)

-- no first word that is known
module _ (verb rest : List ℕ) (feed : verb ≡ codes "feed" → ⊥) (strip : verb ≡ codes "strip" → ⊥) (load : verb ≡ codes "load" → ⊥) (open' : verb ≡ codes "open" → ⊥) (rewind : verb ≡ codes "rewind" → ⊥) (run : verb ≡ codes "run" → ⊥) (report : verb ≡ codes "report" → ⊥) where
  pub line-unknown : Unsaid (λ ws. verb ∷ ws) rest
  line-unknown nothing i ws w y = let z = ap length y in omega arith
  line-unknown (trace_feed items) i ws w y = feed (ap (λ l. at l 0) y.1)
  line-unknown (ramp_feed start step count) i ws w y = feed (ap (λ l. at l 0) y.3)
  line-unknown (record_strip n) i ws w y = strip (ap (λ l. at l 0) y.1)
  line-unknown (text_strip n) i ws w y = strip (ap (λ l. at l 0) y.1)
  line-unknown (loads bytes) i ws w y = load (ap (λ l. at l 0) y)
  line-unknown (opens bytes) i ws w y = open' (ap (λ l. at l 0) y)
  line-unknown rewinds i ws w y = rewind (ap (λ l. at l 0) y)
  line-unknown (runs fuel) i ws w y = run (ap (λ l. at l 0) y.1)
  line-unknown reports i ws w y = report (ap (λ l. at l 0) y)

-- what was read, as a plan that says it
module _ (rest : List ℕ) where
  abbrev pub EndRead : Result (Unit {0}) ReadError → Type 0
  EndRead r = MatchResult r (λ _. Words rest []) (λ _. Words rest [] → ⊥)

  pub load_read : (r : Result (Vec ℕ Global) ReadError) → ReadsBytes rest r → ReadsBehind (λ v. loads (vec_items v)) (λ ws. codes "load" ∷ ws) rest r
  load_read (Ok v) p = (hex_text (vec_items v) ∷ [], p, refl)
  load_read (Err e) p = λ other. load_bad rest (p other)

  pub open_read : (r : Result (Vec ℕ Global) ReadError) → ReadsBytes rest r → ReadsBehind (λ v. opens (vec_items v)) (λ ws. codes "open" ∷ ws) rest r
  open_read (Ok v) p = (hex_text (vec_items v) ∷ [], p, refl)
  open_read (Err e) p = λ other. open_bad rest (p other)

  pub rewind_read : (r : Result (Unit {0}) ReadError) → EndRead r → ReadsBehind (λ _. rewinds) (λ ws. codes "rewind" ∷ ws) rest r
  rewind_read (Ok v) p = ([], p, refl)
  rewind_read (Err e) p = λ _. rewind_bad rest p

  pub report_read : (r : Result (Unit {0}) ReadError) → EndRead r → ReadsBehind (λ _. reports) (λ ws. codes "report" ∷ ws) rest r
  report_read (Ok v) p = ([], p, refl)
  report_read (Err e) p = λ _. report_bad rest p

  pub run_read : (r : Result ℕ ReadError) → ReadsNumber 4294967295 rest r → ReadsBehind runs (λ ws. codes "run" ∷ ws) rest r
  run_read (Ok n) p = (p.1.0 ∷ [], p.1.1, (p.1.0, refl, p.1.2))
  run_read (Err e) p = λ _. run_bad rest p

  pub records_read : (r : Result ℕ ReadError) → ReadsNumber 18446744073709551615 rest r → ReadsBehind record_strip (λ ws. codes "strip" ∷ codes "records" ∷ ws) rest r
  records_read (Ok n) p = (p.1.0 ∷ [], p.1.1, (p.1.0, refl, p.1.2))
  records_read (Err e) p = λ _. records_bad rest p

  pub text_read : (r : Result ℕ ReadError) → ReadsNumber 18446744073709551615 rest r → ReadsBehind text_strip (λ ws. codes "strip" ∷ codes "text" ∷ ws) rest r
  text_read (Ok n) p = (p.1.0 ∷ [], p.1.1, (p.1.0, refl, p.1.2))
  text_read (Err e) p = λ _. text_bad rest p

  pub trace_read : (r : Result (Vec Record Global) ReadError) → MatchResult r (λ records. (ws : List (List ℕ)) × Words rest ws × AreItems ws (items_of (vec_items records))) (λ e. (e ≢ Memory) → NoItems rest) → ReadsBehind (λ records. trace_feed (items_of (vec_items records))) (λ ws. codes "feed" ∷ codes "trace" ∷ ws) rest r
  trace_read (Ok v) p = (p.0, p.1, (p.0, refl, p.2))
  trace_read (Err e) p = λ other. trace_bad rest (p other)

-- the same by a plan that is made of it and says the same
module _ {P Q : Type 0} (says : P → Spoken) (also : Q → Spoken) (first : List (List ℕ) → List (List ℕ)) (rest : List ℕ) where
  pub mapped : {post : P → Q → Type 0} (r : Result P ReadError) (s : Result Q ReadError) → MatchResult r (λ x. IsOkAnd s (post x)) (λ e. s ≡ Err e) → ((x : P) (y : Q) → post x y → also y ≡ says x) → ReadsBehind says first rest r → ReadsBehind also first rest s
  mapped (Ok x) (Ok y) m same p = (p.0, p.1, subst (Say (first p.0)) (sym (same x y m)) p.2)
  mapped (Ok x) (Err e) m same p = absurd m
  mapped (Err e) s m same p = subst (ReadsBehind also first rest) (sym m) p

-- its error is that of what it is made of
pub mapped_error : {P Q : Type 0} (post : P → Q → Type 0) (r : Result P ReadError) (s : Result Q ReadError) → MatchResult r (λ x. IsOkAnd s (post x)) (λ e. s ≡ Err e) → (wrong also : ReadError → Type 0) → ((e : ReadError) → wrong e → also e) → IfErr r wrong → IfErr s also
mapped_error post (Ok x) (Ok y) m wrong also same w = tt
mapped_error post (Ok x) (Err e) m wrong also same w = absurd m
mapped_error post (Err e) s m wrong also same w = subst (λ t. IfErr t also) (sym m) (same e w)

pub at_verb : (verb v rest : List ℕ) (r : Result Line ReadError) → verb ≡ v → ReadsBehind spoken (λ ws. v ∷ ws) rest r → ReadsBehind spoken (λ ws. verb ∷ ws) rest r
at_verb verb v rest r e p = subst (λ v. ReadsBehind spoken (λ ws. v ∷ ws) rest r) (sym e) p

-- one more first word
module _ {P : Type 0} (says : P → Spoken) where
  pub reads_on : (rest after : List ℕ) (first : List (List ℕ) → List (List ℕ)) (v : List ℕ) → word rest ≡ v → after ≡ behind rest → 0 < length v → (r : Result P ReadError) → ReadsBehind says (λ ws. first (v ∷ ws)) after r → ReadsBehind says first rest r
  reads_on rest after first v e f some (Ok l) p = said_on rest first v (says l) e some (p.0, subst (λ t. Words t p.0) f p.1, p.2)
  reads_on rest after first v e f some (Err x) p = λ other. unsaid_on rest first v e some (subst (Unsaid (λ ws. first (v ∷ ws))) f (p other))

-- a whole line is what stands behind no words
pub line_read : (line : List ℕ) (r : Result (Option Line) ReadError) → ReadsBehind said (λ ws. ws) line r → Reads line r
line_read line (Ok l) p = p
line_read line (Err e) p = λ other s i st. p other s i st.0 st.1 st.2

-- three words that say a ramp
pub ramp_said : (rest first on second third : List ℕ) (start step : ℤ) (count : ℕ) → first ≡ word rest → on ≡ behind rest → second ≡ word on → third ≡ behind on → Signed first start → Signed second step → (w : List ℕ) × Words third (w ∷ []) × Unsigned w count → (ws : List (List ℕ)) × Words rest ws × Say (codes "feed" ∷ codes "ramp" ∷ ws) (ramp_feed start step count)
ramp_said rest first on second third start step count e f g h a b p = (
  first ∷ second ∷ p.0 ∷ [],
  (sym e, signed_some first start a, subst (λ t. Words t (second ∷ p.0 ∷ [])) f (sym g, signed_some second step b, subst (λ t. Words t (p.0 ∷ [])) h p.1)),
  (first, second, p.0, refl, a, b, p.2),
)
