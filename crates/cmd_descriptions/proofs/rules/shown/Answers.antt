use Rattle.cmd_descriptions.proofs.Telling.{told}
use Rattle.cmd_descriptions.proofs.rules.shown.Goals as goal

pub returns-in-Err-clause-refused : goal.returns-in-Err-clause-refused
returns-in-Err-clause-refused g c = told _ _ _ _ c.in-Err.ensures.1 c.tell_refused.ensures
