use Rattle.lr_check_samples.proofs.Shown as law
use Rattle.lr_check_samples.proofs.laws.found_trees_lead.Goals as goal

pub returns : goal.returns
returns c = law.found_trees_lead
