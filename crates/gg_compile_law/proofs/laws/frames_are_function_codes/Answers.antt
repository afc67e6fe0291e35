use Rattle.gg_compile_law.proofs.Framing.{frames_are_function_codes}
use Rattle.gg_compile_law.proofs.laws.frames_are_function_codes.Goals as goal

pub returns : goal.returns
returns c = frames_are_function_codes
