use Rattle.l32_target_spelling.proofs.Law.{alike_are_equal}
use Rattle.l32_target_spelling.proofs.laws.alike_are_equal.Goals as goal

pub returns : goal.returns
returns c = alike_are_equal
