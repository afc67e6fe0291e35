use Rattle.cmd_compile.proofs.Counting.{kept_same}
use Rattle.cmd_compile.proofs.compile.text_and_lines.Goals as goal

pub returns-in_default-clause-kept : goal.returns-in_default-clause-kept
returns-in_default-clause-kept g c = kept_same _ _ _
