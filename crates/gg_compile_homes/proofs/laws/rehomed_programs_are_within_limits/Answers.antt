use Rattle.gg_compile_homes.proofs.Law as laws
use Rattle.gg_compile_homes.proofs.laws.rehomed_programs_are_within_limits.Goals as goal

pub returns : goal.returns
returns c = laws.rehomed_programs_are_within_limits
