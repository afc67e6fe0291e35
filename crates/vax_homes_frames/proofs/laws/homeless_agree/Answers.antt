use Rattle.vax_homes_frames.proofs.Plain.{homeless_agree}
use Rattle.vax_homes_frames.proofs.laws.homeless_agree.Goals as goal

-- src/laws.rt
pub returns : goal.returns
returns c = homeless_agree
