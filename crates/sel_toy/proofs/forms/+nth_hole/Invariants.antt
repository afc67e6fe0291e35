use Rattle.std.proofs.Common.{length}
use Rattle.sel_toy.proofs.forms.+nth_hole.Given as goal

abbrev pub decreases-nth_hole : goal.decreases-nth_hole
decreases-nth_hole l = length l.pieces.now
