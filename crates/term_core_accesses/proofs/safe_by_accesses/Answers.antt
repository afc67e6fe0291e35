use Rattle.term_core_accesses.proofs.Accesses.{safe_by_accesses}
use Rattle.term_core_accesses.proofs.safe_by_accesses.Goals as goal

pub returns : goal.returns
returns c = safe_by_accesses
