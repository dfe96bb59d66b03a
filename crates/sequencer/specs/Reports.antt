-- What is reported of a take.
use Rattle.std.specs.Prelude.{ℕ, Bool, is_some, Some, None, Option}
use Rattle.vocabulary.specs.Ends.{number_of, code_of}
use Rattle.machine.specs.declared.tables.Status.{Status}
use Rattle.machine.specs.declared.tables.Status.TheVariants.{Running, Halted, Broken}
use Rattle.sequencer.specs.declared.report.Report.{Report}
use Rattle.sequencer.specs.declared.report.Stop.{Stop}

-- the report of a take, by how the machine stands and the steps carried out; a broken machine never comes
abbrev pub report_of : Status → ℕ → Report
report_of Running steps = record { stop = None; steps = steps }
report_of (Halted e n) steps = record { stop = Some (record { end = e; node = n }); steps = steps }
report_of Broken steps = record { stop = None; steps = steps }

-- a report in numbers: ended or not, end, node and code, which are 0 until the take has ended
abbrev pub has_ended : Report → Bool
has_ended r = is_some r.stop

abbrev end_of : Option Stop → ℕ
end_of None = 0
end_of (Some s) = number_of s.end

abbrev node_of : Option Stop → ℕ
node_of None = 0
node_of (Some s) = s.node

abbrev fault_of : Option Stop → ℕ
fault_of None = 0
fault_of (Some s) = code_of s.end

abbrev pub end_in : Report → ℕ
end_in r = end_of r.stop

abbrev pub node_in : Report → ℕ
node_in r = node_of r.stop

abbrev pub code_in : Report → ℕ
code_in r = fault_of r.stop
