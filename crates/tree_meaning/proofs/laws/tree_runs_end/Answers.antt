use Rattle.tree_meaning.proofs.Law.{tree_run_ends, tree_run_unbroken}
use Rattle.tree_meaning.proofs.laws.tree_runs_end.Goals as goal

pub returns-clause-one_end : goal.returns-clause-one_end
returns-clause-one_end c = tree_run_ends

pub returns-clause-unbroken : goal.returns-clause-unbroken
returns-clause-unbroken c = tree_run_unbroken
