use Rattle.l32_target_rules.proofs.Instances.{instances_are_seen}
use Rattle.l32_target_rules.proofs.laws.instances_are_seen.Goals as goal

pub returns : goal.returns
returns c = instances_are_seen
