use Rattle.lr_check_complete.proofs.Turns.{looks_none, looks_turn_at, looks_all, looks_map}
use Rattle.lr_check_complete.proofs.look.Look.both.Goals as goal

pub loop-token-init : goal.loop-token-init
loop-token-init c = λ q k frame kid. looks_none c.args.self.now _ _ _

pub loop-token-preserved : goal.loop-token-preserved
loop-token-preserved c = λ q k frame kid. looks_turn_at c.args.self.now _ _ _ _ _ _ _ (c.loop-token.invariant q k frame kid) c.loop-token-test.true
    (c.in_ok-pair_from.ensures q k frame kid)

pub returns : goal.returns
returns c = λ q k frame kid. looks_map c.args.self.now _ _ _ _ (λ g n d x at. record { each = λ m may. g m (c.tokens-token-items.ensures m) may n d x at })
    (looks_all c.args.self.now _ _ _ _ _ (c.loop-token.invariant q k frame kid) c.loop-token-test.false)
