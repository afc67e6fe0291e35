use Rattle.gg_compile_law.proofs.Starting.{compiled_follow}
use Rattle.gg_compile_law.proofs.laws.compiled_follow.Goals as goal

pub returns : goal.returns
returns c = compiled_follow
