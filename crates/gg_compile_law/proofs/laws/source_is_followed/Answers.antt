use Rattle.gg_compile_law.proofs.Assembling.{source_is_followed}
use Rattle.gg_compile_law.proofs.laws.source_is_followed.Goals as goal

pub returns : goal.returns
returns c = source_is_followed
