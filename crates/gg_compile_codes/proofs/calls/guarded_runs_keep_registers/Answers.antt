use Rattle.gg_compile_codes.proofs.Keeping as laws
use Rattle.gg_compile_codes.proofs.calls.guarded_runs_keep_registers.Goals as goal

pub returns : goal.returns
returns c = laws.guarded_runs_keep_registers
