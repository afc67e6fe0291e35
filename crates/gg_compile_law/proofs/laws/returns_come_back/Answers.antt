use Rattle.gg_compile_law.proofs.Going.{returns_come_back}
use Rattle.gg_compile_law.proofs.laws.returns_come_back.Goals as goal

pub returns : goal.returns
returns c = returns_come_back
