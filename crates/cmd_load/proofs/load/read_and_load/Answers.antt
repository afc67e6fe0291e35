use Rattle.std.proofs.Common.{refl}
use Rattle.cmd_compile.proofs.Counting.{kept_same}
use Rattle.cmd_load.specs.Outcome.{NoDescription, Behind}
use Rattle.cmd_load.proofs.load.read_and_load.Goals as goal

pub returns-in-Err-clause-leaves : goal.returns-in-Err-clause-leaves
returns-in-Err-clause-leaves g c = NoDescription (record { held = refl; quiet = refl }) c.in-Err.ensures.refused

pub returns-clause-leaves : goal.returns-clause-leaves
returns-clause-leaves g c =
    Behind c.in-Ok.accepted.content
    (record { holds = c.in-Ok.ensures.description; accepted = c.in-Ok.ensures.accepted; unfailed = c.in-Ok.ensures.unfailed })
    (rw c.in-Ok.ensures.untold at c.load_by.ensures.loads)

pub returns-in-Err-clause-kept : goal.returns-in-Err-clause-kept
returns-in-Err-clause-kept g c = kept_same _ _ _
