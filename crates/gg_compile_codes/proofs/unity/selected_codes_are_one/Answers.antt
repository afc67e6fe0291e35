use Rattle.gg_compile_codes.proofs.OneCode as laws
use Rattle.gg_compile_codes.proofs.unity.selected_codes_are_one.Goals as goal

pub returns : goal.returns
returns c = laws.selected_codes_are_one
