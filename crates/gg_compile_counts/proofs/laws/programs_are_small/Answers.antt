use Rattle.gg_compile_counts.proofs.laws.programs_are_small.Goals as goal
use Rattle.gg_compile_counts.proofs.Law.{programs_are_small}

pub returns : goal.returns
returns c = programs_are_small
