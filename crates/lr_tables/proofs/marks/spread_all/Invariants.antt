use Rattle.std.proofs.Common.{◌≡◌}
use Rattle.lr_tables.specs.Marks.{rounds}
use Rattle.lr_tables.proofs.marks.spread_all.Given as goal

abbrev pub invariant-loop-round : goal.invariant-loop-round
invariant-loop-round l = l.set ≡ rounds l._round l.edges l.fn.set
