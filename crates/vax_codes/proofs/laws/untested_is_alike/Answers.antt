use Rattle.vax_codes.proofs.Dropping.{untested_is_alike}
use Rattle.vax_codes.proofs.laws.untested_is_alike.Goals as goal

pub returns : goal.returns
returns c = untested_is_alike
