use Rattle.vax_homes_frames.proofs.Returning.{returns_agree_at_home}
use Rattle.vax_homes_frames.proofs.laws.returns_agree_at_home.Goals as goal

-- src/laws.rt
pub returns : goal.returns
returns c = returns_agree_at_home
