use Rattle.term_core.specs.Shape.{shape_of, size_of}
use Rattle.vax_pairs_walk.proofs.size.+room_behind.Given as goal

abbrev pub decreases-room_behind : goal.decreases-room_behind
decreases-room_behind l = size_of (shape_of l.t.now)
