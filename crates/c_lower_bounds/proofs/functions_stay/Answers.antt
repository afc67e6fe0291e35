use Rattle.c_lower_bounds.proofs.Law.{functions_stay as all_stay}
use Rattle.c_lower_bounds.proofs.functions_stay.Goals as goal

pub returns : goal.returns
returns c = all_stay
