use Rattle.std.proofs.Common.{◌≡◌}
use Rattle.lr_tables.specs.Rows.{actions_of}
use Rattle.lr_tables.proofs.rows.actions.Given as goal

abbrev pub invariant-loop-token : goal.invariant-loop-token
invariant-loop-token l = l.actions.items ≡ actions_of l.rules l.follows l.kernel l.targets l.token
