use Rattle.std.proofs.Common.{length}
use Rattle.vax_pairs_same.proofs.events.+same_events.Given as goal

abbrev pub decreases-same_events : goal.decreases-same_events
decreases-same_events l = length l.a.now
