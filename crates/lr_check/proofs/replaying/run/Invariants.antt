use Rattle.std.proofs.Common.{length}
use Rattle.lr_check.proofs.Falling.{weight}
use Rattle.lr_check.proofs.Running.{Running}
use Rattle.lr_check.proofs.replaying.run.Given as goal

abbrev pub invariant-steps : goal.invariant-steps
invariant-steps l = Running l.tables l.nodes l.order l.parse

abbrev pub decreases-steps : goal.decreases-steps
decreases-steps l = weight (length l.order) l.parse
