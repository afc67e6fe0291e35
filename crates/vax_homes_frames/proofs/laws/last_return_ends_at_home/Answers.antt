use Rattle.vax_homes_frames.proofs.Returning.{last_return_ends_at_home}
use Rattle.vax_homes_frames.proofs.laws.last_return_ends_at_home.Goals as goal

-- src/laws.rt
pub returns : goal.returns
returns c = last_return_ends_at_home
