use Rattle.lr_checked_sets.proofs.Law.{sums_are_of_item_sets}
use Rattle.lr_checked_sets.proofs.laws.sums_are_of_item_sets.Goals as goal

pub returns : goal.returns
returns c = sums_are_of_item_sets
