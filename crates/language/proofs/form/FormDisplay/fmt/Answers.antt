use Rattle.std.proofs.Common.{sym, w32, SFits, rules}
use Rattle.std.proofs.lemmas.Int.{to_z-of_z}
use Rattle.language.proofs.Wording.{said_alone, said_named, said_with_parameter, said_number, said_truth, said_operation}
use Rattle.language.proofs.form.FormDisplay.fmt.Goals as goal

pub returns-in-Assign-clause-writes : goal.returns-in-Assign-clause-writes
returns-in-Assign-clause-writes g c = let s = c.args.self.now in rw (said_alone s.kind s.node s.kept c.in-Assign.is) c.write.ensures.writes

pub returns-in-ProcedureCall-clause-writes : goal.returns-in-ProcedureCall-clause-writes
returns-in-ProcedureCall-clause-writes g c = let s = c.args.self.now in rw (said_named s.kind s.node s.kept c.in-ProcedureCall.is) c.write-in-ProcedureCall.ensures.writes

pub returns-in-Procedure-clause-writes : goal.returns-in-Procedure-clause-writes
returns-in-Procedure-clause-writes g c = let s = c.args.self.now in rw (said_with_parameter s.kind s.node s.kept c.in-Procedure.is) c.write-in-Procedure.ensures.writes

pub returns-in-Number-clause-writes : goal.returns-in-Number-clause-writes
returns-in-Number-clause-writes g c =
    let s = c.args.self.now in
    let f : SFits w32 c.number_in-number.result = search rules in
    let e = said_number s.kind s.node s.kept c.in-Number.is in
    rw (e, sym c.number_in-number.ensures, sym (to_z-of_z w32 c.number_in-number.result f)) c.write-in-Number.ensures.writes

pub returns-in-Truth-clause-writes : goal.returns-in-Truth-clause-writes
returns-in-Truth-clause-writes g c = let s = c.args.self.now in rw (said_truth s.kind s.node s.kept c.in-Truth.is) c.write-in-Truth.ensures.writes

pub returns-in-Operation-clause-writes : goal.returns-in-Operation-clause-writes
returns-in-Operation-clause-writes g c =
    let s = c.args.self.now in
    rw (said_operation s.kind s.node s.kept c.in-Operation.is, sym c.operation_in-operation.ensures) c.write-in-Operation.ensures.writes
