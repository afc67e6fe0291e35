use Rattle.vax_target_shapes.proofs.Homes.{homes_stay}
use Rattle.vax_target_shapes.proofs.laws.homes_stay.Goals as goal

pub returns : goal.returns
returns c = homes_stay
