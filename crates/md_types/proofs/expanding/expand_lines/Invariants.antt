use Rattle.std.proofs.Common.{◌≡◌, length}
use Rattle.md_types.specs.Expand.{in_front, expand_from}
use Rattle.md_types.proofs.expanding.expand_lines.Given as goal

abbrev pub invariant-loop-rest : goal.invariant-loop-rest
invariant-loop-rest l = in_front l.expanded.items (expand_from 0 l.rest) ≡ expand_from 0 l.lines

abbrev pub decreases-loop-rest : goal.decreases-loop-rest
decreases-loop-rest l = length l.rest
