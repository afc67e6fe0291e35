use Rattle.gg_headline.proofs.Texts as laws
use Rattle.gg_headline.proofs.exact.texts_are_of_trees.Goals as goal

pub returns : goal.returns
returns c = laws.texts_are_of_trees
