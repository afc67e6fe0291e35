use Rattle.std.proofs.Common.{◌+◌, ◌*◌}
use Rattle.term_core.specs.Shape.{shape_of, size_of}
use Rattle.term_core.specs.Form.{shape_of_form}
use Rattle.term_core.proofs.text.+put.Given as goal

abbrev pub decreases-put_term : goal.decreases-put_term
decreases-put_term l = 2 * size_of (shape_of l.t.now) + 1

abbrev pub decreases-put_form : goal.decreases-put_form
decreases-put_form l = 2 * size_of (shape_of_form l.t)
