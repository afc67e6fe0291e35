use Rattle.lr_check_drawn.specs.Rising.{Rising}
use Rattle.lr_check_drawn.proofs.rising.rise.Given as goal

abbrev pub invariant-above : goal.invariant-above
invariant-above l = Rising l.found l.fn.growing l.growing l.fn.place l.fn.top l.standing.place l.standing.node

abbrev pub decreases-above : goal.decreases-above
decreases-above l = l.standing.place
