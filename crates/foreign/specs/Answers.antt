-- The answers of the calls as numbers: a refusal's number and node are 0 where the call is accepted.
use Rattle.std.specs.Prelude.{ℕ, false, Ok, Err, Result}
use Rattle.vocabulary.specs.declared.refusal.Refusal.{Refusal}
use Rattle.vocabulary.specs.Refusals.{cause_number}
use Rattle.sequencer.specs.declared.report.Report.{Report}
use Rattle.sequencer.specs.Reports.{has_ended, end_in, node_in, code_in}
use Rattle.foreign.specs.declared.answers.Checked.{Checked}
use Rattle.foreign.specs.declared.answers.Written.{Written}
use Rattle.foreign.specs.declared.answers.Outcome.{Outcome}

-- a verdict, whatever else an accepted one holds
abbrev pub checked_of : {X : Type 0} → Result X Refusal → Checked
checked_of (Ok x) = record { refusal = 0; node = 0 }
checked_of (Err e) = record { refusal = cause_number e.cause; node = e.node }

-- the length of a sheet, which is 0 where none was written
abbrev pub written_of : Result ℕ Refusal → Written
written_of (Ok n) = record { refusal = 0; node = 0; length = n }
written_of (Err e) = record { refusal = cause_number e.cause; node = e.node; length = 0 }

-- how a take stands, with the samples left and what is filled of the memory
abbrev pub outcome_of : Result Report Refusal → ℕ → ℕ → Outcome
outcome_of (Ok r) left filled = record {
  refusal = 0;
  ended = has_ended r;
  end = end_in r;
  code = code_in r;
  node = node_in r;
  steps = r.steps;
  left = left;
  filled = filled;
}
outcome_of (Err e) left filled = record {
  refusal = cause_number e.cause;
  ended = false;
  end = 0;
  code = 0;
  node = e.node;
  steps = 0;
  left = left;
  filled = filled;
}
