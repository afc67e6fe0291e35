use Rattle.std.proofs.Common.{length}
use Rattle.l32_target_taking.proofs.taking.+all_evaluated.Given as goal

abbrev pub decreases-all_evaluated : goal.decreases-all_evaluated
decreases-all_evaluated l = length l.parts.now
