use Rattle.gg_compile_law.proofs.Names.{main_stands}
use Rattle.gg_compile_law.proofs.laws.main_stands.Goals as goal

pub returns : goal.returns
returns c = main_stands
