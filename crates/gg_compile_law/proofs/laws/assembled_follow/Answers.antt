use Rattle.gg_compile_law.proofs.Assembling.{assembled_follow}
use Rattle.gg_compile_law.proofs.laws.assembled_follow.Goals as goal

pub returns : goal.returns
returns c = assembled_follow
