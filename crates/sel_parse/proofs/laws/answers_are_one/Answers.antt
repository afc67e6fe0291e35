use Rattle.sel_parse.proofs.Law.{has_one_code, is_not_full, is_not_blocked, is_one_refusal}
use Rattle.sel_parse.proofs.laws.answers_are_one.Goals as goal

pub returns-clause-code : goal.returns-clause-code
returns-clause-code g c = has_one_code g.T.Templates.meaning

pub returns-clause-full : goal.returns-clause-full
returns-clause-full g c = is_not_full g.T.Templates.meaning

pub returns-clause-blocked : goal.returns-clause-blocked
returns-clause-blocked g c = is_not_blocked g.T.Templates.meaning

pub returns-clause-refusal : goal.returns-clause-refusal
returns-clause-refusal g c = is_one_refusal g.T.Templates.meaning
