use Rattle.vax_homes_frames.proofs.Trees.{all_trees_stay_home}
use Rattle.vax_homes_frames.proofs.laws.all_trees_stay_home.Goals as goal

-- src/laws.rt
pub returns : goal.returns
returns c = all_trees_stay_home
