use Rattle.language.proofs.Shape.{sound}
use Rattle.language.proofs.Sizes.{root-size}
use Rattle.language.proofs.theorems.one_tree_of_all_nodes.Goals as goal

pub returns : goal.returns
returns c = record { sound = sound; size = root-size }
