use Rattle.std.proofs.Common.{◌≡◌, map, take}
use Rattle.lr_tables.specs.Numbering.{kernels}
use Rattle.lr_tables.specs.Rows.{row_of}
use Rattle.lr_tables.proofs.rows.rows_of.Given as goal

abbrev pub invariant-loop-kernel : goal.invariant-loop-kernel
invariant-loop-kernel l = l.rows.items ≡ map (row_of l.rules l.stmt l.classes (kernels l.sets.keys)) (kernels (take l.kernel-index l.kernel-items))
