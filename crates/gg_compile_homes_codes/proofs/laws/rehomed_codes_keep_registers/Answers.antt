use Rattle.gg_compile_homes_codes.proofs.Law.{rehomed_codes_keep_registers}
use Rattle.gg_compile_homes_codes.proofs.laws.rehomed_codes_keep_registers.Goals as goal

pub returns : goal.returns
returns c = rehomed_codes_keep_registers
