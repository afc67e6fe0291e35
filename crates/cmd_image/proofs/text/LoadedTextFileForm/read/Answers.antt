use Rattle.std.proofs.Common.{◌∙◌}
use Rattle.cmd_image.proofs.Reading.{not_run}
use Rattle.cmd_image.proofs.text.LoadedTextFileForm.read.Goals as goal

pub returns-in_ok-line-in-Some-clause-refused : goal.returns-in_ok-line-in-Some-clause-refused
returns-in_ok-line-in-Some-clause-refused c =
    not_run _ _ c.in-Ok.code c.in-Some.fault c.in-Ok.ensures.found c.in-Ok.ensures.only (c.in_ok-fault_of.ensures ∙ c.in-Some.is) c.in_ok-line-in-Some.ensures
