use Rattle.std.proofs.Common.{ℕ, ◌<◌}
use Rattle.lr_check_complete.specs.Looks.{automaton, Looks}
use Rattle.lr_check_complete.specs.Kids.{ReducesIn}
use Rattle.lr_check_complete.proofs.look.Look.all_reductions.Given as goal

abbrev pub invariant-loop-number : goal.invariant-loop-number
invariant-loop-number l =
    Looks l.self l.fn.into.items l.into.items ((i : ℕ) → i < l.number → ReducesIn (automaton l.self) l.self.found.now i)
