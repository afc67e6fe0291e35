use Rattle.gg_compile_codes.proofs.Keeping as laws
use Rattle.gg_compile_codes.proofs.calls.calls_are_over.Goals as goal

pub returns : goal.returns
returns c = laws.calls_are_over
