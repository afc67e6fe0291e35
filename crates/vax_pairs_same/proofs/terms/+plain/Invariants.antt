use Rattle.term_core.specs.Shape.{shape_of, size_of}
use Rattle.vax_pairs_same.proofs.terms.+plain.Given as goal

abbrev pub decreases-plain : goal.decreases-plain
decreases-plain l = size_of (shape_of l.t.now)
