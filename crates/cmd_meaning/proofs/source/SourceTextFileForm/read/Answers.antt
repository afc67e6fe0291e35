use Rattle.cmd_meaning.proofs.Leaving.{no_source}
use Rattle.cmd_meaning.proofs.source.SourceTextFileForm.read.Goals as goal

pub returns-in_ok-line-in-Err-At-clause-refused : goal.returns-in_ok-line-in-Err-At-clause-refused
returns-in_ok-line-in-Err-At-clause-refused c =
    no_source _ _ c.in-Err-At.field-0 c.in-Err-At.place c.in-Err-At.kind c.in-Err-At.field-0-is c.in-Err-At.ensures.refused c.in-Err-At.ensures.only
    c.in_ok-line-in-Err-At.ensures
