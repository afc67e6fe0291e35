use Rattle.std.proofs.Common.{ℕ, ◌<◌}
use Rattle.lr_check_closed.specs.Looks.{automaton}
use Rattle.lr_check_closed.specs.Closing.{IsClosedAt}
use Rattle.lr_check_closed.proofs.look.Look.is_closed.Given as goal

abbrev pub invariant-loop-at : goal.invariant-loop-at
invariant-loop-at l = (n : ℕ) → n < l.at → IsClosedAt (automaton l.self) l.self.lists.now l.self.rows.now n
