use Rattle.lr_check_nodes.specs.Pruned.{Pruning}
use Rattle.lr_check_nodes.proofs.pruning.prune.Given as goal

abbrev pub invariant-loop-number : goal.invariant-loop-number
invariant-loop-number l = Pruning l.nodes l.marks.items l.pruned l.number
