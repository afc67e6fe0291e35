use Rattle.term_core_settled.proofs.Law.{normal_is_settled}
use Rattle.term_core_settled.proofs.normal_is_settled.Goals as goal

pub returns : goal.returns
returns c = normal_is_settled
