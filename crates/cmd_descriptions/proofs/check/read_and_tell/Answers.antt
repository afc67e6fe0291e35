use Rattle.std.proofs.Common.{refl}
use Rattle.cmd_descriptions.specs.Machines.{machine_of}
use Rattle.cmd_descriptions.proofs.Leaving.{unwritten, counted, refused}
use Rattle.cmd_descriptions.proofs.check.read_and_tell.Goals as goal

pub returns-in-Ok-ok_line-clause-leaves : goal.returns-in-Ok-ok_line-clause-leaves
returns-in-Ok-ok_line-clause-leaves g c =
    unwritten (machine_of g.W.TargetWord.target_word g.T.Templates.meaning) _ _ _ c.in-Ok.accepted c.in-Ok-ok_line.line _
    (record {
      finds = record { holds = c.in-Ok.ensures.description; unfailed = c.in-Ok.ensures.unfailed };
      numbered = c.in-Ok.ensures.numbered;
      accepted = c.in-Ok.ensures.accepted;
    })
    c.as_slice.ensures (counted _ _ _ c.in-Ok.accepted c.rules.ensures c.states.ensures c.in-Ok-ok_line.ensures)
    (rw c.in-Ok.ensures.untold at c.in-Err-write_out.ensures.refused)

pub returns-in-Err-clause-leaves : goal.returns-in-Err-clause-leaves
returns-in-Err-clause-leaves g c =
    refused (machine_of g.W.TargetWord.target_word g.T.Templates.meaning) _ _ _ c.in-Err.ensures.refused (record { held = refl; quiet = refl })
