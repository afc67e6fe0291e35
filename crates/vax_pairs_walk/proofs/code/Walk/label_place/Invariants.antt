use Rattle.vax_pairs_walk.proofs.Placing.{Ahead}
use Rattle.vax_pairs_walk.proofs.code.Walk.label_place.Given as goal

-- no label of that name stands before
abbrev pub invariant-loop-place : goal.invariant-loop-place
invariant-loop-place l = Ahead l.self.items.now l.name l.place
