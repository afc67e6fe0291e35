use Rattle.l32_shown.proofs.Shown.{lines_are_shown, rules_are_shown}
use Rattle.l32_shown.proofs.nothing_is_refused.Goals as goal

pub returns-clause-rules : goal.returns-clause-rules
returns-clause-rules c = rules_are_shown

pub returns-clause-lines : goal.returns-clause-lines
returns-clause-lines c = lines_are_shown
