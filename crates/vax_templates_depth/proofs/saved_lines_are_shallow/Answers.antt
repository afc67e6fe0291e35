use Rattle.vax_templates_depth.proofs.Templates.{saved_lines_are_shallow}
use Rattle.vax_templates_depth.proofs.saved_lines_are_shallow.Goals as goal

pub returns : goal.returns
returns c = saved_lines_are_shallow
