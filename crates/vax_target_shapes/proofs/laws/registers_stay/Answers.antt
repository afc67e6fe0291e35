use Rattle.vax_target_shapes.proofs.Homes.{registers_stay}
use Rattle.vax_target_shapes.proofs.laws.registers_stay.Goals as goal

pub returns : goal.returns
returns c = registers_stay
