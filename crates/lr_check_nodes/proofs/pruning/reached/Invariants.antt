use Rattle.lr_check_nodes.specs.Pruned.{Reaching}
use Rattle.lr_check_nodes.proofs.pruning.reached.Given as goal

abbrev pub invariant-loop-number : goal.invariant-loop-number
invariant-loop-number l = Reaching l.nodes l.marks.items l.number
