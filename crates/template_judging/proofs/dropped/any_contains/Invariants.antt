use Rattle.std.proofs.Common.{◌≡◌, map, drop}
use Rattle.std.specs.List.{list_any}
use Rattle.term_core.specs.Shape.{shape_of}
use Rattle.vax_templates.specs.Dropped.{contains}
use Rattle.template_judging.proofs.dropped.any_contains.Given as goal

abbrev pub invariant-loop-t : goal.invariant-loop-t
invariant-loop-t l = list_any (contains (shape_of l.part)) (map shape_of l.terms) ≡ list_any (contains (shape_of l.part)) (map shape_of (drop l.t-index l.terms))
