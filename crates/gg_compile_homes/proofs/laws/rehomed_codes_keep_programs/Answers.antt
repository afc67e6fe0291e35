use Rattle.gg_compile_homes.proofs.Law as laws
use Rattle.gg_compile_homes.proofs.laws.rehomed_codes_keep_programs.Goals as goal

pub returns : goal.returns
returns c = laws.rehomed_codes_keep_programs
