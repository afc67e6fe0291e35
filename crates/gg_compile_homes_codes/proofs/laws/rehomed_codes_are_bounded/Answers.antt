use Rattle.gg_compile_homes_codes.proofs.Law.{rehomed_codes_are_bounded}
use Rattle.gg_compile_homes_codes.proofs.laws.rehomed_codes_are_bounded.Goals as goal

pub returns : goal.returns
returns c = rehomed_codes_are_bounded
