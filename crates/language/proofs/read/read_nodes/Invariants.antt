use Rattle.std.proofs.Common.{◌≡◌}
use Rattle.language.specs.Table.{nodes_in}
use Rattle.language.proofs.read.read_nodes.Given as goal

abbrev pub invariant-loop-bytes : goal.invariant-loop-bytes
invariant-loop-bytes g l = l.nodes ≡ nodes_in l.table l.bytes-index
