use Rattle.vax_alike.proofs.Sharing.{alike_goes_on}
use Rattle.vax_alike.proofs.laws.alike_goes_on.Goals as goal

pub returns : goal.returns
returns c = alike_goes_on
