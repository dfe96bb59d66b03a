use Rattle.std.proofs.Common.{◌≡◌, ◌/◌, ◌%◌, ◌<◌, [], ◌∷◌, get_or, sym, ap, ◌∙◌, rules, arith}
use lib.Utf8.{encode}
use Rattle.std.proofs.Output.{has_written_append, has_written_of_eq}
use Rattle.std.specs.Fmt.{HasWritten}
use Rattle.notation.specs.Hex.{hex_digit}
use Rattle.notation.proofs.Pairs.{digits_more, encode_digit}
use Rattle.notation.proofs.hex.HexDisplay.fmt.Goals as goal

pub loop-byte-preserved : goal.loop-byte-preserved
loop-byte-preserved g c = λ plain.
    let bytes = c.args.self.now.0.now in
    let i = c.loop-byte.byte-index in
    let byte = get_or bytes i 0 in
    let took = g.W.Write.write_str_gives in
    let small : byte < 256 = search rules in
    let high : encode c.digit_char.result ≡ hex_digit (byte / 16) ∷ [] = ap encode c.digit_char.ensures ∙ encode_digit (byte / 16) (omega arith) in
    let low : encode c.digit_char-in-loop-byte.result ≡ hex_digit (byte % 16) ∷ [] = ap encode c.digit_char-in-loop-byte.ensures ∙ encode_digit (byte % 16) (omega arith) in
    let before = c.loop-byte.invariant plain in
    let first : HasWritten took c.loop-byte.f (encode c.digit_char.result) c.write_char.new.self = search (rules, before.plain) in
    let second : HasWritten took c.write_char.new.self (encode c.digit_char-in-loop-byte.result) c.write_char-in-loop-byte.new.self = search (rules, first.plain) in
    has_written_of_eq _ _ _ _ _ (sym (digits_more bytes i c.loop-byte-test.true))
    (has_written_append _ _ _ _ _ _ before
    (has_written_append _ _ _ _ _ _ (has_written_of_eq _ _ _ _ _ high first) (has_written_of_eq _ _ _ _ _ low second)))
