use Rattle.session.proofs.act.Goals as goal

pub returns-in-Open-clause-kept : goal.returns-in-Open-clause-kept
returns-in-Open-clause-kept g c = g.S.Strip.stays _
