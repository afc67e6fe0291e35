use Rattle.vax_homes_frames.proofs.Beginning.{runs_begin_at_home}
use Rattle.vax_homes_frames.proofs.laws.runs_begin_at_home.Goals as goal

-- src/laws.rt
pub returns : goal.returns
returns c = runs_begin_at_home
