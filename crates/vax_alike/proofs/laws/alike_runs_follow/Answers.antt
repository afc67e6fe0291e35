use Rattle.vax_alike.proofs.Following.{alike_runs_follow}
use Rattle.vax_alike.proofs.laws.alike_runs_follow.Goals as goal

pub returns : goal.returns
returns c = alike_runs_follow
