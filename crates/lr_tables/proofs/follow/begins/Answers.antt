use Rattle.std.proofs.Common.{rules}
use Rattle.lr_tables.specs.Looking.{begins}
use Rattle.lr_tables.proofs.follow.begins.Goals as goal

pub returns : goal.returns
unfolding begins
returns c = search rules
