use Rattle.std.proofs.Common.{◌≡◌, map, take}
use Rattle.term_core.specs.Shape.{shape_of}
use Rattle.vax_pairs_walk.proofs.state.all_copied.Given as goal

abbrev pub invariant-loop-t : goal.invariant-loop-t
invariant-loop-t l = map shape_of l.copies.items ≡ map shape_of (take l.t-index l.terms)
