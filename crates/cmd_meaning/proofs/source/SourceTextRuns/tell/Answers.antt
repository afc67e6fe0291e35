use Rattle.std.proofs.Common.{ap}
use Rattle.c_program.specs.Programs.{program}
use Rattle.cmd_meaning.proofs.Leaving.{told_run}
use Rattle.cmd_meaning.proofs.source.SourceTextRuns.tell.Goals as goal

pub returns-in-Ok : goal.returns-in-Ok
returns-in-Ok g c =
    told_run _ _ _ _ _ _ _ _ (ap program c.plain.ensures) c.in-Ok.ensures.begins c.in-Ok.ensures.unbroken c.tell_run.ensures
