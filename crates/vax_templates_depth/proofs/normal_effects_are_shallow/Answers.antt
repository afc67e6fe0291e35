use Rattle.vax_templates_depth.proofs.Descriptions.{normal_effects_are_shallow}
use Rattle.vax_templates_depth.proofs.normal_effects_are_shallow.Goals as goal

pub returns : goal.returns
returns c = normal_effects_are_shallow
