use Rattle.std.proofs.Common.{◌≡◌, map, take, vec_items}
use Rattle.notation.specs.Hex.{Bytes}
use Rattle.notation.proofs.Pairs.{pair_of}
use Rattle.notation.proofs.hex.read_pairs.Given as goal

abbrev pub invariant-loop-k : goal.invariant-loop-k
invariant-loop-k l = (take l.k l.pairs ≡ map pair_of (vec_items l.bytes)) × Bytes (vec_items l.bytes)
