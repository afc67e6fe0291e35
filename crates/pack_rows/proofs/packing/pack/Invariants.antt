use Rattle.std.proofs.Common.{take}
use Rattle.pack_rows.specs.Packed.{rows_in}
use Rattle.pack_rows.proofs.Turns.{IsPackedTo}
use Rattle.pack_rows.proofs.packing.pack.Given as goal

abbrev pub invariant-loop-items : goal.invariant-loop-items
invariant-loop-items l = IsPackedTo (rows_in (take l.items-index l.rows)) l.defaults.items l.starts.items l.columns.items l.entries.items
