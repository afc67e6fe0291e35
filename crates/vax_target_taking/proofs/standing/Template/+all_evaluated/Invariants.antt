use Rattle.std.proofs.Common.{length}
use Rattle.vax_target_taking.proofs.standing.Template.+all_evaluated.Given as goal

abbrev pub decreases-all_evaluated : goal.decreases-all_evaluated
decreases-all_evaluated l = length l.kinds.now
