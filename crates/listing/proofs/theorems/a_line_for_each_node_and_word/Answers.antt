use Rattle.listing.proofs.Counted.{one_line-each}
use Rattle.listing.proofs.theorems.a_line_for_each_node_and_word.Goals as goal

pub returns : goal.returns
returns c = one_line-each
