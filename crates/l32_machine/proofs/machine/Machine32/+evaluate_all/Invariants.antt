use Rattle.std.proofs.Common.{length}
use Rattle.l32_machine.proofs.machine.Machine32.+evaluate_all.Given as goal

abbrev pub decreases-evaluate_all : goal.decreases-evaluate_all
decreases-evaluate_all l = length l.parts.now
