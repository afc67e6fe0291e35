use Rattle.gg_compile_needs.proofs.laws.headings_are_short.Goals as goal
use Rattle.gg_compile_needs.proofs.Units.{headings_are_short}

pub returns : goal.returns
returns c = headings_are_short
