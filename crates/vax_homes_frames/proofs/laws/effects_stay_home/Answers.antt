use Rattle.vax_homes_frames.proofs.Effects.{effects_stay_home}
use Rattle.vax_homes_frames.proofs.laws.effects_stay_home.Goals as goal

-- src/laws.rt
pub returns : goal.returns
returns c = effects_stay_home
