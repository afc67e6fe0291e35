use Rattle.vax_homes_law.proofs.Law.{homed_codes_follow}
use Rattle.vax_homes_law.proofs.laws.homed_codes_follow.Goals as goal

-- src/laws.rt
pub returns : goal.returns
returns c = homed_codes_follow
