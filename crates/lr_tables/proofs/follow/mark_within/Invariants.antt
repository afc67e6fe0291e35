use Rattle.std.proofs.Common.{◌≡◌, drop, None}
use Rattle.lr_tables.specs.Looking.{within}
use Rattle.lr_tables.proofs.follow.mark_within.Given as goal

abbrev pub invariant-loop-symbol : goal.invariant-loop-symbol
invariant-loop-symbol l = within l.token l.firsts l.before (drop l.symbol-index l.right) l.set ≡ within l.token l.firsts None l.right l.fn.set
