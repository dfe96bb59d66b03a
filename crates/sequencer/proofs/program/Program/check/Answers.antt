use Rattle.std.proofs.Common.{sym, ◌∙◌}
use Rattle.std.proofs.lemmas.Result.{err_from_is_err_and}
use Rattle.sequencer.proofs.Holding.{misshapen}
use Rattle.sequencer.proofs.program.Program.check.Goals as goal

pub returns-in_err-check_shape : goal.returns-in_err-check_shape
returns-in_err-check_shape c =
    let p = err_from_is_err_and c.from_residual-in_err-check_shape.result c.from_residual-in_err-check_shape.ensures.1 in
    let n = c.in_ok-read.ensures.read in
    rw (p.1, p.2) (sym (misshapen c.args.table.now c.as_slice.result.now _ n.0 (c.as_slice.ensures.value ∙ n.1) c.in_err-check_shape.ensures.refused))
