use Rattle.gg_compile_law.proofs.Law.{written_codes_load}
use Rattle.gg_compile_law.proofs.laws.written_codes_load.Goals as goal

pub returns : goal.returns
returns c = written_codes_load
