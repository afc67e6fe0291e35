use Rattle.lr_check_least.proofs.Opened.{least_closed}
use Rattle.lr_check_least.proofs.least_sets_are_closed.Goals as goal

pub returns : goal.returns
returns c = least_closed
