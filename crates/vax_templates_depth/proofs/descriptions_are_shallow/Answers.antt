use Rattle.vax_templates_depth.proofs.Descriptions.{descriptions_are_shallow}
use Rattle.vax_templates_depth.proofs.descriptions_are_shallow.Goals as goal

pub returns : goal.returns
returns c = descriptions_are_shallow
