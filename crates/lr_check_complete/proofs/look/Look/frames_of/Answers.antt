use Rattle.lr_check_complete.proofs.Turns.{looks_none, looks_turn_at, looks_all, looks_map}
use Rattle.lr_check_complete.proofs.look.Look.frames_of.Goals as goal

pub loop-token-init : goal.loop-token-init
loop-token-init c = looks_none c.args.self.now _ _ _

pub loop-token-preserved : goal.loop-token-preserved
loop-token-preserved c = looks_turn_at c.args.self.now _ _ _ _ _ _ _ c.loop-token.invariant c.loop-token-test.true c.in_ok-frame.ensures

pub returns : goal.returns
returns c = looks_map c.args.self.now _ _ _ _ (λ g k. g k (c.tokens-token-items.ensures k))
    (looks_all c.args.self.now _ _ _ _ _ c.loop-token.invariant c.loop-token-test.false)
