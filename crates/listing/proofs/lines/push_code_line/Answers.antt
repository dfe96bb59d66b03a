use Rattle.std.proofs.Common.{ℤ, ap, refl, ◌∙◌, append_assoc, w32, SFits, rules, to_z, of_z}
use Rattle.std.specs.Fmt.{signed_decimal}
use Rattle.std.proofs.lemmas.Int.{to_z-of_z}
use Rattle.std.proofs.lemmas.Result.{on_ok_weaker}
use Rattle.listing.specs.Page.{right}
use Rattle.listing.proofs.Styling.{number_at_right, signed_at_right, name_at_left}
use Rattle.listing.proofs.lines.push_code_line.Goals as goal

pub returns : goal.returns
returns c =
    let w = c.args.word in
    let f : SFits w32 c.operand-operand.result = search rules in
    let a = number_at_right c.laid_out.result 8 c.args.position refl c.laid_out.ensures in
    let b = name_at_left c.laid_out-2.result w.instruction c.laid_out-2.ensures in
    let d = number_at_right c.laid_out-4.result 7 w.node refl c.laid_out-4.ensures in
    let z = to_z-of_z w32 c.operand-operand.result f ∙ c.operand-operand.ensures in
    let g = signed_at_right c.laid_out-3.result 13 (to_z w32 (of_z w32 c.operand-operand.result)) refl c.laid_out-3.ensures ∙ ap (λ (n : ℤ). right 13 (signed_decimal n)) z in
    on_ok_weaker c.writeln.result (λ e. e ∙ simp (c.name-name.ensures, a, b, g, d, append_assoc)) c.writeln.ensures.bytes
