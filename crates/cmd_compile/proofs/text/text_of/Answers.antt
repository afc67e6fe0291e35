use Rattle.cmd_compile.proofs.Counting.{kept_same}
use Rattle.cmd_compile.proofs.Reading.{is_text_by}
use Rattle.cmd_compile.proofs.text.text_of.Goals as goal

pub returns-in-Err-clause-kept : goal.returns-in-Err-clause-kept
returns-in-Err-clause-kept g c = kept_same _ _ _

pub returns-in-Ok-passed_text-clause-text : goal.returns-in-Ok-passed_text-clause-text
returns-in-Ok-passed_text-clause-text g c = is_text_by c.alike_runs_follow.ensures _ _ _ c.in-Ok.code _ c.in-Ok.ensures.code c.in-Ok-passed_text.ensures.text
