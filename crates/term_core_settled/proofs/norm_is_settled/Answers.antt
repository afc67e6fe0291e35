use Rattle.term_core_settled.proofs.Law.{norm_is_settled}
use Rattle.term_core_settled.proofs.norm_is_settled.Goals as goal

pub returns : goal.returns
returns c = norm_is_settled
