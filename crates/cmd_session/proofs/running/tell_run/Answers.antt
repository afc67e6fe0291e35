use Rattle.cmd_session.proofs.Ends.{cut_in_output}
use Rattle.cmd_session.proofs.running.tell_run.Goals as goal

pub returns-in-Err-Failed : goal.returns-in-Err-Failed
returns-in-Err-Failed g c =
    cut_in_output _ _ _ _ _ (rw c.in-Err-Failed.field-0-is at c.in-Err-Failed.ensures.counts) c.in-Err-Failed.ensures.front c.refuse.ensures
