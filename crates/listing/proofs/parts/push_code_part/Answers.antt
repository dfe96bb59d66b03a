use Rattle.std.proofs.Common.{◌≡◌, ℕ, List, ◌++◌, length, string_bytes, codes, decimal, ap, ◌∙◌}
use Rattle.listing.specs.Page.{code_heading, code_lines, code_part}
use Rattle.listing.proofs.Joining.{then_more}
use Rattle.listing.proofs.Parting.{heading_is, all_lines}
use Rattle.listing.proofs.parts.push_code_part.Goals as goal

pub returns : goal.returns
unfolding code_part
returns c =
    let code = c.args.code.now in
    let s = string_bytes c.args.text.now in
    let t = string_bytes c.write.new.self in
    let e1 : t ≡ s ++ code_heading (length code) = c.in_ok-write.ensures.bytes ∙ ap (λ (l : List ℕ). s ++ l) (heading_is (codes "Code: ") (decimal (length code)) (codes " words") (codes "position  instruction      operand   node")) in
    let e2 : string_bytes c.loop-position.text ≡ t ++ code_lines 0 code = all_lines code c.loop-position.position _ c.loop-position-test.false c.loop-position.invariant in
    then_more s _ _ e1 e2
