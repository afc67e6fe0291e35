use Rattle.std.proofs.Common.{◌≡◌, take, get_or, fold}
use Rattle.pack_rows.specs.Rows.{oftener}
use Rattle.pack_rows.proofs.packing.default_of.Given as goal

abbrev pub invariant-loop-entry : goal.invariant-loop-entry
invariant-loop-entry l = l.best ≡ fold (oftener l.row) (get_or l.row 0 0) (take l.entry-index l.row)
