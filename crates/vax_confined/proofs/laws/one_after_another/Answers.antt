use Rattle.vax_confined.proofs.Joining.{one_after_another}
use Rattle.vax_confined.proofs.laws.one_after_another.Goals as goal

-- src/laws.rt
pub returns : goal.returns
returns c = one_after_another
