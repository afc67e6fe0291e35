use Rattle.vax_codes.proofs.Turning.{turned_is_alike}
use Rattle.vax_codes.proofs.laws.turned_is_alike.Goals as goal

pub returns : goal.returns
returns c = turned_is_alike
