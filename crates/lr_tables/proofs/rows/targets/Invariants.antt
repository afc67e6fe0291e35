use Rattle.std.proofs.Common.{◌≡◌}
use Rattle.lr_tables.specs.Numbering.{kernels}
use Rattle.lr_tables.specs.Rows.{targets_of}
use Rattle.lr_tables.proofs.rows.targets.Given as goal

abbrev pub invariant-loop-symbol : goal.invariant-loop-symbol
invariant-loop-symbol l = l.targets.items ≡ targets_of l.rules l.stmt l.items (kernels l.sets.keys) l.symbol
