use Rattle.std.proofs.Common.{◌≡◌}
use Rattle.c_meaning.specs.Pending.{to_come}
use Rattle.c_meaning.specs.FrameWork.{work}
use Rattle.c_meaning.proofs.machine.Machine.advance.Given as goal

abbrev pub invariant-loop-event : goal.invariant-loop-event
invariant-loop-event l = to_come l.initial.self ≡ to_come l.self

abbrev pub decreases-loop-event : goal.decreases-loop-event
decreases-loop-event l = work l.self
