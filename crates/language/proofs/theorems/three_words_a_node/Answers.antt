use Rattle.language.proofs.Lengths.{few_words}
use Rattle.language.proofs.theorems.three_words_a_node.Goals as goal

pub returns : goal.returns
returns c = few_words
