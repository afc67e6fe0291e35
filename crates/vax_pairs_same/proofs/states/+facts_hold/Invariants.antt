use Rattle.std.proofs.Common.{length}
use Rattle.vax_pairs_same.proofs.states.+facts_hold.Given as goal

abbrev pub decreases-facts_hold : goal.decreases-facts_hold
decreases-facts_hold l = length l.facts.now
