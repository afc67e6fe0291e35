use Rattle.vax_homes_frames.proofs.Beginning.{calls_begin_at_home}
use Rattle.vax_homes_frames.proofs.laws.calls_begin_at_home.Goals as goal

-- src/laws.rt
pub returns : goal.returns
returns c = calls_begin_at_home
