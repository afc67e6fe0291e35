use Rattle.std.proofs.Common.{length}
use Rattle.sel_regs.proofs.needs.+registers_among.Given as goal

abbrev pub decreases-registers_among : goal.decreases-registers_among
decreases-registers_among l = length l.right.now
