use Rattle.std.proofs.Common.{[]}
use Rattle.c_program.specs.Programs.{program as plain}
use Rattle.c_meaning.specs.Programs.{source}
use Rattle.cmd_load_runs.proofs.Turns.{Remains, left_of}
use Rattle.cmd_load_runs.proofs.source.tally_source.Given as goal

abbrev pub invariant-loop-output : goal.invariant-loop-output
invariant-loop-output l = Remains (source (plain l.program) [] l.count) l.output.items l.number l.run.remaining

abbrev pub decreases-loop-output : goal.decreases-loop-output
decreases-loop-output l = left_of l.run.remaining
