use Rattle.gg_compile_law.proofs.Loaded.{assembled_loads}
use Rattle.gg_compile_law.proofs.laws.assembled_loads.Goals as goal

pub returns : goal.returns
returns c = assembled_loads
