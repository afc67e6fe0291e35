use Rattle.std.proofs.Common.{◌≡◌, length}
use Rattle.lr_check_found.specs.lr_check_sets.specs.Table.{automaton_of}
use Rattle.lr_check_drawn.specs.Drawing.{AreDrawn}
use Rattle.lr_check_drawn.proofs.drawing.Drawing.of_all.Given as goal

abbrev pub invariant-loop-number : goal.invariant-loop-number
invariant-loop-number l = AreDrawn (automaton_of l.tables) l.found l.drawing × (length l.drawing.depths ≡ l.number)
