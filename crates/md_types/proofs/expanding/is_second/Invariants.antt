use Rattle.std.proofs.Common.{◌≡◌, drop}
use Rattle.md_types.specs.Expand.{is_second}
use Rattle.md_types.proofs.expanding.is_second.Given as goal

abbrev pub invariant-loop-line : goal.invariant-loop-line
invariant-loop-line l = is_second (drop l.line-index l.lines) ≡ is_second l.lines
