use Rattle.trials.proofs.carry.StepsJob.work.Given as goal

abbrev pub invariant-loop-step : goal.invariant-loop-step
invariant-loop-step g l = g.S.Strip.keeps l.initial.strip l.strip
