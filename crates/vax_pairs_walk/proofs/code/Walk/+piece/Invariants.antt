use Rattle.vax_pairs_walk.proofs.code.Walk.+piece.Given as goal

abbrev pub decreases-piece : goal.decreases-piece
decreases-piece l = l.fuel
