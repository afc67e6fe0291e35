use Rattle.std.proofs.Common.{length}
use Rattle.vax_pairs_walk.proofs.code.Walk.+all_evaluated.Given as goal

abbrev pub decreases-all_evaluated : goal.decreases-all_evaluated
decreases-all_evaluated l = length l.kinds.now
