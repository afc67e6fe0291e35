use Rattle.lr_checked.proofs.Refusing.{is_stopped}
use Rattle.lr_checked.proofs.checking.check.Goals as goal

pub returns-in-Err-clause-exact : goal.returns-in-Err-clause-exact
returns-in-Err-clause-exact c = is_stopped c.args.tables.content c.in-Err.fault c.in-Err.ensures.real
