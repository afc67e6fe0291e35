use Rattle.std.proofs.Common.{ℕ, ◌<◌}
use Rattle.lr_check_closed.specs.Looks.{automaton}
use Rattle.lr_check_closed.specs.Fine.{IsCalmAt, IsFineAt}
use Rattle.lr_check_closed.proofs.look.Look.is_fine.Given as goal

abbrev pub invariant-loop-at : goal.invariant-loop-at
invariant-loop-at l = record {
  held : IsCalmAt (automaton l.self) l.held;
  fine : (n : ℕ) → n < l.at → IsFineAt (automaton l.self) l.self.lists.now l.self.rows.now n;
}
