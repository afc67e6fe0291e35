use Rattle.std.proofs.Common.{◌≡◌, drop}
use Rattle.lr_check_nodes.specs.Pruned.{with_marks}
use Rattle.lr_check_nodes.proofs.pruning.mark.Given as goal

abbrev pub invariant-loop-kid : goal.invariant-loop-kid
invariant-loop-kid l = with_marks l.marks (drop l.kid-index l.kids) ≡ with_marks l.fn.marks l.kids
