use Rattle.std.proofs.Common.{◌≡◌, map, take}
use Rattle.term_core.specs.Shape.{shape_of}
use Rattle.term_core.specs.Norm.{norm}
use Rattle.sel_terms.proofs.effect.norm_terms.Given as goal

abbrev pub invariant-loop-t : goal.invariant-loop-t
invariant-loop-t l = map shape_of l.normal.items ≡ map (norm l.facts) (map shape_of (take l.t-index l.terms))
