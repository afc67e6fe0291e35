use Rattle.gg_compile_codes.proofs.Keeping as laws
use Rattle.gg_compile_codes.proofs.calls.typed_codes_keep_registers.Goals as goal

pub returns : goal.returns
returns c = laws.typed_codes_keep_registers
