use Rattle.std.proofs.Common.{arith}
use Rattle.cmd_files.proofs.Refusals.{file_wrong}
use Rattle.cmd_files.proofs.stages.read_file.Goals as goal

pub returns-clause-refused : goal.returns-clause-refused
returns-clause-refused g c =
    file_wrong g.T.FileForm.form _ _ c.status.result _ _ c.read_whole.new.into.items _ c.in-Err-Line.line _ c.status.ensures c.in-Ok.ensures.told
    (omega (arith, c.in-Ok.ensures.within, c.limit.ensures)) c.as_slice.ensures.value
    (rw c.in-Err-Line.field-0-is at c.in-Err-Line.ensures.refused) c.as_slice-in-Err-Line.ensures c.in-Ok.ensures.names c.refuse.ensures
