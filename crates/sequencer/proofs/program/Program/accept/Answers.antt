use Rattle.std.proofs.Common.{◌∙◌}
use Rattle.std.proofs.lemmas.Result.{err_from_is_err_and}
use Rattle.sequencer.proofs.Holding.{misshapen}
use Rattle.sequencer.proofs.program.Program.accept.Goals as goal

pub returns-in_err-shaped : goal.returns-in_err-shaped
returns-in_err-shaped c =
    let p = err_from_is_err_and c.from_residual-in_err-shaped.result c.from_residual-in_err-shaped.ensures.1 in
    let n = c.in_ok-nodes.ensures.read in
    rw (p.1, p.2) (misshapen c.args.table.now c.as_slice.result.now _ n.0 (c.as_slice.ensures.value ∙ n.1) c.in_err-shaped.ensures.refused)
