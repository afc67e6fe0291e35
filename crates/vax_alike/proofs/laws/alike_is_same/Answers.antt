use Rattle.vax_alike.proofs.Sharing.{alike_is_same}
use Rattle.vax_alike.proofs.laws.alike_is_same.Goals as goal

pub returns : goal.returns
returns c = alike_is_same
