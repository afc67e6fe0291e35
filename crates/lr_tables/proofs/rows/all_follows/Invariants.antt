use Rattle.std.proofs.Common.{◌≡◌}
use Rattle.lr_tables.specs.Rows.{all_follows}
use Rattle.lr_tables.proofs.rows.all_follows.Given as goal

abbrev pub invariant-loop-token : goal.invariant-loop-token
invariant-loop-token l = l.follows.items ≡ all_follows l.rules l.stmt l.classes l.token
