use Rattle.std.proofs.Common.{refl, subst, ◌∙◌, rules}
use Rattle.cmd_files.specs.Calls.{AreBytes}
use Rattle.cmd_files.proofs.Leaving.{refused_file, refused_input, told_run}
use Rattle.cmd_files.proofs.Exactly.{run_of_file}
use Rattle.cmd_files.proofs.run.run_file.Goals as goal

pub returns-in-Err-clause-runs : goal.returns-in-Err-clause-runs
returns-in-Err-clause-runs g c =
    run_of_file _ _ _ _
    (refused_file g.T.FileForm.form g.T.FileForm.runner _ _ c.in-Err.ensures.refused (record { left = refl; unbroken = refl }) (record { held = refl; quiet = refl }))
    c.in-Err.ensures.names (search rules)

pub returns-in-Ok-read_input-clause-runs : goal.returns-in-Ok-read_input-clause-runs
returns-in-Ok-read_input-clause-runs g c =
    run_of_file _ _ _ _
    (told_run g.T.FileForm.form g.T.FileForm.runner _ _ (g.T.FileForm.item c.in-Ok.item) c.in-Ok-read_input.bytes _
    (record { holds = c.in-Ok.ensures.item; unfailed = c.in-Ok.ensures.unfailed })
    (record {
      all = c.in-Ok-read_input.ensures.whole;
      are_bytes = subst AreBytes c.as_slice-given.ensures c.know_bytes.ensures;
      within = c.in-Ok-read_input.ensures.within;
      unbroken = c.in-Ok-read_input.ensures.unbroken;
    })
    c.as_slice-given.ensures (rw (c.in-Ok-read_input.ensures.untold ∙ c.in-Ok.ensures.untold) at c.tell.ensures))
    c.in-Ok.ensures.names c.in-Ok-read_input.ensures.taken

pub returns-clause-runs : goal.returns-clause-runs
returns-clause-runs g c =
    run_of_file _ _ _ _
    (refused_input g.T.FileForm.form g.T.FileForm.runner _ _ (g.T.FileForm.item c.in-Ok.item)
    (record { holds = c.in-Ok.ensures.item; unfailed = c.in-Ok.ensures.unfailed })
    (rw c.in-Ok.ensures.untold at c.in-Err-read_input.ensures.refused) (record { held = refl; quiet = refl }))
    c.in-Ok.ensures.names c.in-Err-read_input.ensures.taken
