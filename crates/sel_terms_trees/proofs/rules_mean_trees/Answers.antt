use Rattle.sel_terms_trees.proofs.Law.{rules_mean_trees}
use Rattle.sel_terms_trees.proofs.rules_mean_trees.Goals as goal

pub returns : goal.returns
returns c = rules_mean_trees
