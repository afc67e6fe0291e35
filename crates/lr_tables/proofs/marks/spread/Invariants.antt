use Rattle.std.proofs.Common.{◌≡◌, drop}
use Rattle.lr_tables.specs.Marks.{spread}
use Rattle.lr_tables.proofs.marks.spread.Given as goal

abbrev pub invariant-loop-edge : goal.invariant-loop-edge
invariant-loop-edge l = spread (drop l.edge-index l.edges) l.set ≡ spread l.edges l.fn.set
