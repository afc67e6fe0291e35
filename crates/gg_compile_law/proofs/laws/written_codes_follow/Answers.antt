use Rattle.gg_compile_law.proofs.Law.{written_codes_follow}
use Rattle.gg_compile_law.proofs.laws.written_codes_follow.Goals as goal

pub returns : goal.returns
returns c = written_codes_follow
