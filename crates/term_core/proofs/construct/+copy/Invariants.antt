use Rattle.std.proofs.Common.{◌+◌, ◌*◌}
use Rattle.term_core.specs.Shape.{shape_of, size_of}
use Rattle.term_core.specs.Form.{shape_of_form}
use Rattle.term_core.proofs.construct.+copy.Given as goal

abbrev pub decreases-copy : goal.decreases-copy
decreases-copy l = 2 * size_of (shape_of l.t.now) + 1

abbrev pub decreases-copy_form : goal.decreases-copy_form
decreases-copy_form l = 2 * size_of (shape_of_form l.t)
