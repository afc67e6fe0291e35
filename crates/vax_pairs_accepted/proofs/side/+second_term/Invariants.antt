use Rattle.std.proofs.Common.{length}
use Rattle.vax_pairs_accepted.proofs.side.+second_term.Given as goal

abbrev pub decreases-second_term : goal.decreases-second_term
decreases-second_term l = length l.facts.now
