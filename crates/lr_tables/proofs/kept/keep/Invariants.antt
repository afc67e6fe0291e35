use Rattle.std.proofs.Common.{take}
use Rattle.lr_tables.proofs.KeepTurns.{AreKeptTo}
use Rattle.lr_tables.proofs.kept.keep.Given as goal

abbrev pub invariant-loop-row : goal.invariant-loop-row
invariant-loop-row l = AreKeptTo (take l.row-index l.rows) l.lists.items l.actions.items l.gotos.items
