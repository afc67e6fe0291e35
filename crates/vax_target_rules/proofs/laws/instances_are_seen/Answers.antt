-- The lemma of `Instances`.
use Rattle.vax_target_rules.proofs.Instances.{instances_are_seen}
use Rattle.vax_target_rules.proofs.laws.instances_are_seen.Goals as goal

pub returns : goal.returns
returns c = instances_are_seen
