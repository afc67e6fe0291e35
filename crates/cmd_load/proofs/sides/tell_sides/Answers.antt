use Rattle.cmd_load.specs.Telling.{Written}
use Rattle.cmd_load.proofs.sides.tell_sides.Goals as goal

pub returns-in-Ok : goal.returns-in-Ok
returns-in-Ok g c = Written (rw c.as_slice.ensures.value at c.in-Ok.ensures.all) (rw c.in-Ok.ensures.untold at c.tell_ends.ensures)
