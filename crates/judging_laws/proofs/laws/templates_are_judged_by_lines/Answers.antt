use Rattle.judging_laws.proofs.Law.{judging_goes_by_lines}
use Rattle.judging_laws.proofs.laws.templates_are_judged_by_lines.Goals as goal

pub returns : goal.returns
returns c = judging_goes_by_lines
