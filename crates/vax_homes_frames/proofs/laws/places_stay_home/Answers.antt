use Rattle.vax_homes_frames.proofs.Same.{places_stay_home}
use Rattle.vax_homes_frames.proofs.laws.places_stay_home.Goals as goal

-- src/laws.rt
pub returns : goal.returns
returns c = places_stay_home
