use Rattle.tree_homes.proofs.Pairs.{weaken}
use Rattle.tree_homes.proofs.laws.choices_are_any.Goals as goal

pub returns : goal.returns
returns g c = weaken _
