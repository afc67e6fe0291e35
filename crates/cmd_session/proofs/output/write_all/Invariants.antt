use Rattle.std.proofs.Common.{length}
use Rattle.cmd_session.proofs.Fronts.{WrittenSoFar}
use Rattle.cmd_session.specs.Writing.{change}
use Rattle.cmd_session.proofs.output.write_all.Given as goal

abbrev pub invariant-loop-rest : goal.invariant-loop-rest
invariant-loop-rest g l = WrittenSoFar (change g.K.Sink l.initial.sink l.sink) l.fn.bytes l.rest

abbrev pub decreases-loop-rest : goal.decreases-loop-rest
decreases-loop-rest g l = length l.rest
