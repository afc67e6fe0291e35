use Rattle.std.proofs.Common.{◌≡◌, ◌++◌, drop}
use Rattle.lr_checked.specs.Lines.{lines_from}
use Rattle.lr_checked.proofs.lines.put_nodes.Given as goal

abbrev pub invariant-loop-number : goal.invariant-loop-number
invariant-loop-number l = l.into.items ++ lines_from l.number (drop l.number l.nodes) ≡ l.initial.into.items ++ lines_from 0 l.nodes
