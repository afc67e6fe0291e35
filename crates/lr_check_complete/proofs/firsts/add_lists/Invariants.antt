use Rattle.lr_check_complete.proofs.Gaining.{Adding}
use Rattle.lr_check_complete.proofs.firsts.add_lists.Given as goal

abbrev pub invariant-loop-sum : goal.invariant-loop-sum
invariant-loop-sum l = Adding l.found l.more l.sum-index l.fn.sums.items l.sums.items
