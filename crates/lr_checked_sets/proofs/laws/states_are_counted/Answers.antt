use Rattle.lr_checked_sets.proofs.Law.{states_are_counted}
use Rattle.lr_checked_sets.proofs.laws.states_are_counted.Goals as goal

pub returns : goal.returns
returns c = states_are_counted
