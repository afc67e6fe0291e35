use Rattle.std.proofs.Common.{refl}
use Rattle.cmd_load.specs.Telling.{greatest_number}
use Rattle.cmd_load.proofs.sides.greatest_number.Goals as goal

pub returns : goal.returns
unfolding greatest_number
returns c = refl
