use Rattle.vax_homes_frames.proofs.Same.{items_stay_home}
use Rattle.vax_homes_frames.proofs.laws.items_stay_home.Goals as goal

-- src/laws.rt
pub returns : goal.returns
returns c = items_stay_home
