use Rattle.std.proofs.Common.{◌≡◌, ◌+◌, ◌*◌, min, ap, refl, ◌∙◌, append_assoc, arith}
use Rattle.std.proofs.lemmas.Result.{on_ok_weaker}
use Rattle.std.proofs.lemmas.Bool.{ne_eqb}
use Rattle.listing.specs.Page.{spaces}
use Rattle.listing.proofs.Styling.{number_at_right, indented}
use Rattle.listing.proofs.lines.push_tree_line.Goals as goal

pub returns : goal.returns
returns c =
    let r = c.args.row in
    let a = number_at_right c.laid_out.result 5 r.node refl c.laid_out.ensures in
    let b = number_at_right c.laid_out-2.result 7 r.level refl c.laid_out-2.ensures in
    let m : c.min.result ≡ min r.level 30 = c.min.ensures ∙ ap (λ n. min n 30) c.from.ensures in
    let i = indented c.laid_out-3.result (2 + 2 * c.min.result) (ne_eqb (2 + 2 * c.min.result) 0 (λ e. omega arith)) c.laid_out-3.ensures ∙ ap (λ n. spaces (2 + 2 * n)) m in
    on_ok_weaker c.writeln.result (λ e. e ∙ simp (a, b, i, c.form-form.ensures, append_assoc)) c.writeln.ensures.bytes
