use Rattle.std.proofs.Common.{◌≡◌, drop}
use Rattle.lr_tables.specs.Sets.{marked_all}
use Rattle.lr_tables.proofs.sets.mark_all.Given as goal

abbrev pub invariant-loop-item : goal.invariant-loop-item
invariant-loop-item l = marked_all l.rules l.stmt (drop l.item-index l.kernel) l.set ≡ marked_all l.rules l.stmt l.kernel l.fn.set
