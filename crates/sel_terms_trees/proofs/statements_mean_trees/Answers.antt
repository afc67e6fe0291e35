use Rattle.sel_terms_trees.proofs.Law.{statements_mean_trees}
use Rattle.sel_terms_trees.proofs.statements_mean_trees.Goals as goal

pub returns : goal.returns
returns c = statements_mean_trees
