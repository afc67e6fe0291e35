use Rattle.std.proofs.Common.{◌≡◌, drop}
use Rattle.lr_check_drawn.specs.Asked.{with_kid}
use Rattle.lr_check_drawn.proofs.asked.Asked.push_kid.Given as goal

abbrev pub invariant-loop-depth : goal.invariant-loop-depth
invariant-loop-depth l = with_kid l.self l.size (drop l.depth-index l.depths) ≡ with_kid l.fn.self l.size l.depths
