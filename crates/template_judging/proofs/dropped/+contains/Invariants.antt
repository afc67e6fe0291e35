use Rattle.std.proofs.Common.{◌+◌, ◌*◌}
use Rattle.term_core.specs.Shape.{shape_of, size_of}
use Rattle.term_core.specs.Form.{shape_of_form}
use Rattle.template_judging.proofs.dropped.+contains.Given as goal

abbrev pub decreases-contains : goal.decreases-contains
decreases-contains l = 2 * size_of (shape_of l.whole.now) + 1

abbrev pub decreases-parts_contain : goal.decreases-parts_contain
decreases-parts_contain l = 2 * size_of (shape_of_form l.whole)
