use Rattle.std.proofs.Common.{rules}
use Rattle.lr_tables.specs.Looking.{follows}
use Rattle.lr_tables.proofs.follow.follow.Goals as goal

pub returns : goal.returns
unfolding follows
returns c = search rules
