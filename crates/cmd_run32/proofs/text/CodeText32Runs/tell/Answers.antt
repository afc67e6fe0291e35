use Rattle.l32_machine.specs.View.{state}
use Rattle.cmd_run32.proofs.Leaving.{told_run, code_refused}
use Rattle.std.proofs.Common.{refl}
use Rattle.cmd_run32.proofs.text.CodeText32Runs.tell.Goals as goal

pub returns-in-Ok : goal.returns-in-Ok
returns-in-Ok g c =
    told_run _ _ _ _ _ _ (state c.in-Ok.machine) c.in-Ok.ensures c.tell_run.ensures

pub returns-in-Err : goal.returns-in-Err
returns-in-Err g c =
    code_refused c.in-Err.fault _ _ _ _ _ _ (record { held = refl; quiet = refl }) c.in-Err.ensures c.refuse_code.ensures
