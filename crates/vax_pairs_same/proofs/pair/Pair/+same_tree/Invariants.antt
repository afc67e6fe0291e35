use Rattle.vax_pairs_same.proofs.Sizes.{nodes}
use Rattle.vax_pairs_same.proofs.pair.Pair.+same_tree.Given as goal

abbrev pub decreases-same_tree : goal.decreases-same_tree
decreases-same_tree l = nodes l.a.now
