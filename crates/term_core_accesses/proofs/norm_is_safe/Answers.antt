use Rattle.term_core_accesses.proofs.Safety.{norm_is_safe}
use Rattle.term_core_accesses.proofs.norm_is_safe.Goals as goal

pub returns : goal.returns
returns c = norm_is_safe
