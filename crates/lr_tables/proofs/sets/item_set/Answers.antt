use Rattle.std.proofs.Common.{rules}
use Rattle.lr_tables.specs.Sets.{item_set}
use Rattle.lr_tables.proofs.sets.item_set.Goals as goal

pub returns : goal.returns
unfolding item_set
returns c = search rules
