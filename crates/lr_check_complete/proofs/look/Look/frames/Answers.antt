use Rattle.std.proofs.Common.{ℕ, arith}
use Rattle.tree_core.specs.declared.token.Tok.{Tok}
use Rattle.lr_check_complete.specs.Looks.{automaton}
use Rattle.lr_check_complete.specs.Kids.{FrameIn}
use Rattle.lr_check_complete.proofs.Turns.{looks_there, looks_both, looks_map, up_to}
use Rattle.lr_check_complete.proofs.look.Look.frames.Goals as goal

pub loop-number-init : goal.loop-number-init
loop-number-init c = looks_there c.args.self.now _ _ (λ q lt. absurd (omega (arith, lt)))

pub loop-number-preserved : goal.loop-number-preserved
loop-number-preserved c = looks_both c.args.self.now _ _ _ _ _ _
    (λ below here. up_to c.loop-number.number (λ (q : ℕ). (k : Tok) → FrameIn (automaton c.args.self.now) c.args.self.now.found.now q k) c.of.result below c.of.ensures here)
    c.loop-number.invariant c.in_ok-frames_of.ensures

pub returns : goal.returns
returns c = looks_map c.args.self.now _ _ _ _ (λ g q lt. g q (omega (arith, lt, c.states-number-end.ensures))) c.loop-number.invariant
