use Rattle.cmd_load_runs.proofs.Law.{ends_like}
use Rattle.cmd_load_runs.proofs.laws.followers_end_alike.Goals as goal

pub returns : goal.returns
returns c = λ a b o value comes end_is follows one. ends_like a o value comes end_is b follows one
