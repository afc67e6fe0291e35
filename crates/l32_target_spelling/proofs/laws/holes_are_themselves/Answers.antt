use Rattle.l32_target_spelling.proofs.Law.{holes_are_themselves}
use Rattle.l32_target_spelling.proofs.laws.holes_are_themselves.Goals as goal

pub returns : goal.returns
returns c = holes_are_themselves
