use Rattle.std.proofs.Common.{length}
use Rattle.vax_pairs_accepted.proofs.side.+first_term.Given as goal

abbrev pub decreases-first_term : goal.decreases-first_term
decreases-first_term l = length l.facts.now
