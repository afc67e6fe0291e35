use Rattle.std.proofs.Common.{length}
use Rattle.vax_pairs_cuts.proofs.fact.+are_named.Given as goal

abbrev pub decreases-are_named : goal.decreases-are_named
decreases-are_named l = length l.facts.now
