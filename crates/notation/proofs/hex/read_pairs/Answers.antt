use Rattle.std.proofs.Common.{◌≡◌, ℕ, ◌%◌, ◌<◌, rules, length, get_or, [], ◌∷◌, ◌++◌, map, take, vec_items, inr, sym, refl, ap, ◌∙◌, subst, arith}
use Rattle.std.proofs.ByRecursion.{All-append}
use Rattle.std.proofs.lemmas.List.{take_more, take_all, map_push}
use Rattle.std.proofs.lemmas.Slice.{pushed}
use Rattle.std.proofs.lemmas.Result.{err_from_is_err_and, IfErr-at_err}
use Rattle.std.proofs.lemmas.Bool.{eqb-true, eqb-false}
use Rattle.notation.specs.Hex.{Bytes}
use Rattle.notation.proofs.Missed.{missed_at}
use Rattle.notation.proofs.Pairs.{odd_bad, pair_bad, pair_error, pairs_all, pair_of}
use Rattle.notation.proofs.hex.read_pairs.Goals as goal

pub returns-then-not-is_empty : goal.returns-then-not-is_empty
returns-then-not-is_empty c =
    let alone = eqb-false (length c.as_chunks.result.1.now) 0 (sym c.if-not-is_empty.ensures) in
    let n = c.as_chunks.ensures.back_len in
    record {
      bytes = λ _ bytes _ e. odd_bad c.args.word.now c.as_chunks.result.1.now c.as_chunks.ensures.back_len c.if-not-is_empty.ensures bytes e;
      fault = inr (_, c.missed.ensures, omega arith);
    }

pub returns-in_err-byte : goal.returns-in_err-byte
returns-in_err-byte c =
    let word = c.args.word.now in
    let pairs = c.as_chunks.result.0.now in
    let even : length word % 2 ≡ 0 = sym c.as_chunks.ensures.back_len ∙ eqb-true (length c.as_chunks.result.1.now) 0 (sym c.if-not-is_empty.ensures) in
    let none : (b : ℕ) → b < 256 → get_or pairs c.loop-k.k [] ≡ pair_of b → ⊥ = search rules in
    let p = err_from_is_err_and c.from_residual.result c.from_residual.ensures.1 in
    let m = missed_at c.args.wanted _ c.read_byte.result c.map_err.result c.map_err.ensures.cases (λ w y p. search rules) _ c.in_err-byte.was in
    let f = pair_error word pairs c.as_chunks.ensures.front even c.loop-k.k c.loop-k-test.true (vec_items c.loop-k.bytes) c.loop-k.invariant.1 c.loop-k.invariant.0 m.0 (IfErr-at_err _ m.1 c.read_byte.ensures.fault) in
    record {
      bytes = rw p.1 (λ _. pair_bad word pairs c.as_chunks.ensures.front c.loop-k.k c.loop-k-test.true none);
      fault = rw (p.1, p.2) (inr (m.0, m.2, f));
    }

pub loop-k-preserved : goal.loop-k-preserved
loop-k-preserved c =
    let pairs = c.as_chunks.result.0.now in
    let byte = c.in_ok-byte.byte in
    let grown = pushed (byte ∷ []) refl c.in_ok-push.was c.push.ensures.items in
    let small : byte < 256 = search rules in
    let pair : get_or pairs c.loop-k.k [] ≡ pair_of byte = search rules in (
      take_more pairs c.loop-k.k [] c.loop-k-test.true
          ∙ ap (λ p. take c.loop-k.k pairs ++ p ∷ []) pair
          ∙ ap (λ t. t ++ pair_of byte ∷ []) c.loop-k.invariant.0
          ∙ sym (map_push pair_of (vec_items c.loop-k.bytes) byte)
          ∙ ap (map pair_of) (sym grown),
      subst Bytes (sym grown) (All-append (λ b. b < 256) (vec_items c.loop-k.bytes) (byte ∷ []) c.loop-k.invariant.1 (small, tt)),
    )

pub returns-clause-bytes : goal.returns-clause-bytes
returns-clause-bytes c =
    let even : length c.args.word.now % 2 ≡ 0 = sym c.as_chunks.ensures.back_len ∙ eqb-true (length c.as_chunks.result.1.now) 0 (sym c.if-not-is_empty.ensures) in
    pairs_all c.args.word.now c.as_chunks.result.0.now c.as_chunks.ensures.front (vec_items c.loop-k.bytes) even (sym (take_all c.loop-k.k c.as_chunks.result.0.now c.loop-k-test.false) ∙ c.loop-k.invariant.0)
