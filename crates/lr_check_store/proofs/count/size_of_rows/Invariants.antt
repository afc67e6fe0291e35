use Rattle.std.proofs.Common.{◌≡◌, ◌≤◌, take}
use Rattle.std.specs.Prelude.{sum_by}
use Rattle.lr_check_store.specs.Counted.{size_of_row}
use Rattle.lr_check_store.proofs.count.size_of_rows.Given as goal

abbrev pub invariant-loop-row : goal.invariant-loop-row
invariant-loop-row l = record { many : l.size ≡ sum_by (size_of_row l.behinds) (take l.row-index l.rows); few : l.size ≤ 4000000 }
