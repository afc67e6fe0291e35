use Rattle.gg_compile_needs.proofs.laws.strings_are_short.Goals as goal
use Rattle.gg_compile_needs.proofs.Values.{strings_are_short}

pub returns : goal.returns
returns c = strings_are_short
