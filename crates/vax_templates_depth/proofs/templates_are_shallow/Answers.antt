use Rattle.vax_templates_depth.proofs.Templates.{templates_are_shallow}
use Rattle.vax_templates_depth.proofs.templates_are_shallow.Goals as goal

pub returns : goal.returns
returns c = templates_are_shallow
