use Rattle.l32_target_rules.proofs.Results.{results_are_left}
use Rattle.l32_target_rules.proofs.laws.results_are_left.Goals as goal

pub returns : goal.returns
returns c = results_are_left
