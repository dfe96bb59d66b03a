use Rattle.std.proofs.Common.{true, false, sym, ◌∙◌}
use Rattle.std.proofs.lemmas.Result.{err_from_is_err_and}
use Rattle.sequencer.specs.Model.{held}
use Rattle.sequencer.proofs.Holding.{frame_is, table-refused, code_decides}
use Rattle.sequencer.proofs.program.Program.accept_sheet.Goals as goal

pub returns-in_err-program : goal.returns-in_err-program
returns-in_err-program c =
    let f = frame_is c.args.sheet.now c.in_ok-ok_or.field-0 (sym c.in_ok-ok_or.ensures.ok_part ∙ c.frame.ensures) in
    let p = err_from_is_err_and c.from_residual-in_err-program.result c.from_residual-in_err-program.ensures.1 in
    rw (p.1, p.2) (table-refused c.args.sheet.now c.in_ok-ok_or.field-0 f c.code_at-code_at.result c.code_at-code_at.ensures _ c.in_err-program.ensures)

pub returns-then-not-code_matches : goal.returns-then-not-code_matches
returns-then-not-code_matches c =
    let f = frame_is c.args.sheet.now c.in_ok-ok_or.field-0 (sym c.in_ok-ok_or.ensures.ok_part ∙ c.frame.ensures) in
    let a = c.in_ok-program.ensures in
    rw c.into.ensures (code_decides c.args.sheet.now c.in_ok-ok_or.field-0 f c.code_at-code_at.result c.code_at-code_at.ensures
    (held c.in_ok-program.program) c.as_slice.result.now false a.0 a.1 c.as_slice.ensures.value c.if-not-code_matches.ensures).0

pub returns : goal.returns
returns c =
    let f = frame_is c.args.sheet.now c.in_ok-ok_or.field-0 (sym c.in_ok-ok_or.ensures.ok_part ∙ c.frame.ensures) in
    let a = c.in_ok-program.ensures in
    code_decides c.args.sheet.now c.in_ok-ok_or.field-0 f c.code_at-code_at.result c.code_at-code_at.ensures
    (held c.in_ok-program.program) c.as_slice.result.now true a.0 a.1 c.as_slice.ensures.value c.if-not-code_matches.ensures
