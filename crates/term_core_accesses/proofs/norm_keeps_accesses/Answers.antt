use Rattle.term_core_accesses.proofs.Keeping.{norm_keeps_accesses}
use Rattle.term_core_accesses.proofs.norm_keeps_accesses.Goals as goal

pub returns : goal.returns
returns c = norm_keeps_accesses
