use Rattle.std.proofs.Common.{length}
use Rattle.vax_pairs_same.proofs.states.+facts_last.Given as goal

abbrev pub decreases-facts_last : goal.decreases-facts_last
decreases-facts_last l = length l.facts.now
