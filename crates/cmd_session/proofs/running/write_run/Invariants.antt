use Rattle.std.proofs.Common.{◌≡◌}
use Rattle.cmd_session.proofs.Runs.{Stands}
use Rattle.cmd_session.proofs.running.write_run.Given as goal

abbrev pub invariant-loop-byte : goal.invariant-loop-byte
invariant-loop-byte g l = record {
  stands : Stands (g.R.Run.coming l.initial.run) (g.K.Sink.told l.initial.out) (g.K.Sink.told l.out) l.piece.items (g.R.Run.coming l.run);
  quiet : g.K.Sink.faults l.out ≡ g.K.Sink.faults l.initial.out;
}

abbrev pub decreases-loop-byte : goal.decreases-loop-byte
decreases-loop-byte g l = g.R.Run.left l.run
