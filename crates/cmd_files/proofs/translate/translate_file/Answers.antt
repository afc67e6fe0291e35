use Rattle.std.proofs.Common.{refl, ◌∙◌}
use Rattle.cmd_files.specs.Translations.{NoItem, NotWritten, Written}
use Rattle.cmd_files.proofs.Translating.{translated, untouched}
use Rattle.cmd_files.proofs.translate.translate_file.Goals as goal

pub returns-in-Err-clause-translates : goal.returns-in-Err-clause-translates
returns-in-Err-clause-translates g c = translated _ _ _ _ (NoItem (record { held = refl; quiet = refl }) c.in-Err.ensures.refused) c.in-Err.ensures.names

pub returns-in-Ok-write_out-clause-translates : goal.returns-in-Ok-write_out-clause-translates
returns-in-Ok-write_out-clause-translates g c =
    translated _ _ _ _
    (Written refl (g.T.FileForm.item c.in-Ok.item) c.in-Ok-translate.bytes
    (record { holds = c.in-Ok.ensures.item; unfailed = c.in-Ok.ensures.unfailed; becomes = c.in-Ok-translate.ensures })
    (rw c.as_slice.ensures at c.in-Ok-write_out.ensures.all)
    (untouched g.E.Sink c.args.report.now c.write_out.new.report (c.in-Ok-write_out.ensures.untold ∙ c.in-Ok.ensures.untold)))
    c.in-Ok.ensures.names

pub returns-clause-translates : goal.returns-clause-translates
returns-clause-translates g c =
    translated _ _ _ _
    (NotWritten (g.T.FileForm.item c.in-Ok.item) c.in-Ok-translate.bytes
    (record { holds = c.in-Ok.ensures.item; unfailed = c.in-Ok.ensures.unfailed; becomes = c.in-Ok-translate.ensures })
    (rw (c.as_slice.ensures, c.in-Ok.ensures.untold) at c.in-Err-write_out.ensures.refused))
    c.in-Ok.ensures.names
