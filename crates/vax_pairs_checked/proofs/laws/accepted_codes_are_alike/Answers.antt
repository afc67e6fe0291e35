use Rattle.vax_pairs_checked.proofs.Accepting.{accepted_codes_are_alike}
use Rattle.vax_pairs_checked.proofs.laws.accepted_codes_are_alike.Goals as goal

pub returns : goal.returns
returns c = accepted_codes_are_alike
