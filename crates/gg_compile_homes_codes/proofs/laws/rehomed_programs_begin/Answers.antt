use Rattle.gg_compile_homes_codes.proofs.Law.{rehomed_programs_begin}
use Rattle.gg_compile_homes_codes.proofs.laws.rehomed_programs_begin.Goals as goal

pub returns : goal.returns
returns c = rehomed_programs_begin
