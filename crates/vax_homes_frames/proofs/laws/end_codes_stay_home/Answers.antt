use Rattle.vax_homes_frames.proofs.Same.{end_codes_stay_home}
use Rattle.vax_homes_frames.proofs.laws.end_codes_stay_home.Goals as goal

-- src/laws.rt
pub returns : goal.returns
returns c = end_codes_stay_home
