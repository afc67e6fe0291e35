use Rattle.vax_target_given.proofs.Law.{shapes_are_given}
use Rattle.vax_target_given.proofs.laws.shapes_are_given.Goals as goal

pub returns : goal.returns
returns c = shapes_are_given
