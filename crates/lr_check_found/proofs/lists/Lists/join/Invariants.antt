use Rattle.lr_check_found.proofs.Joining.{Joins}
use Rattle.lr_check_found.proofs.lists.Lists.join.Given as goal

abbrev pub invariant-loop-at : goal.invariant-loop-at
invariant-loop-at l = Joins l.fn.self l.self l.upper l.lower l.at l.number
