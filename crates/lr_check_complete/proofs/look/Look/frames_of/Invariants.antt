use Rattle.lr_check_found.proofs.Below.{Below}
use Rattle.lr_check_complete.specs.Looks.{automaton, Looks}
use Rattle.lr_check_complete.specs.Kids.{FrameIn}
use Rattle.lr_check_complete.proofs.look.Look.frames_of.Given as goal

abbrev pub invariant-loop-token : goal.invariant-loop-token
invariant-loop-token l =
    Looks l.self l.fn.into.items l.into.items (Below l.token-items l.token-index (λ k. FrameIn (automaton l.self) l.self.found.now l.state k))
