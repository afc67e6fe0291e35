use Rattle.std.proofs.Common.{◌≡◌, ◌++◌, take}
use Rattle.pack_rows.specs.Rows.{columns_from, other_than}
use Rattle.pack_rows.proofs.packing.push_exceptions.Given as goal

abbrev pub invariant-loop-column : goal.invariant-loop-column
invariant-loop-column l = record {
  columns : l.columns.items ≡ l.initial.columns.items ++ columns_from l.default 0 (take l.column l.row);
  entries : l.entries.items ≡ l.initial.entries.items ++ other_than l.default (take l.column l.row);
}
