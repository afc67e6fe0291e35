use Rattle.std.proofs.Common.{ℕ, ◌<◌}
use Rattle.tree_core.specs.declared.token.Tok.{Tok}
use Rattle.lr_check_complete.specs.Looks.{automaton, Looks}
use Rattle.lr_check_complete.specs.Kids.{FrameIn}
use Rattle.lr_check_complete.proofs.look.Look.frames.Given as goal

abbrev pub invariant-loop-number : goal.invariant-loop-number
invariant-loop-number l =
    Looks l.self l.fn.into.items l.into.items ((q : ℕ) → q < l.number → (k : Tok) → FrameIn (automaton l.self) l.self.found.now q k)
