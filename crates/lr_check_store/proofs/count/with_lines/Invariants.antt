use Rattle.std.proofs.Common.{◌≡◌, ◌+◌, ◌≤◌, take}
use Rattle.std.specs.Prelude.{sum_by}
use Rattle.lr_check_store.specs.Counted.{size_of_line}
use Rattle.lr_check_store.proofs.count.with_lines.Given as goal

abbrev pub invariant-loop-line : goal.invariant-loop-line
invariant-loop-line l = record { many : l.size ≡ l.before + sum_by (size_of_line l.behinds) (take l.line-index l.lines); few : l.size ≤ 4000000 }
