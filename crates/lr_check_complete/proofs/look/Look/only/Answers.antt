use Rattle.lr_check_complete.specs.Looks.{automaton}
use Rattle.lr_check_complete.proofs.Turns.{looks_none, looks_turn_at, looks_all, looks_map}
use Rattle.lr_check_complete.proofs.Kids_found.{one_kid}
use Rattle.lr_check_complete.proofs.look.Look.only.Goals as goal

pub loop-token-init : goal.loop-token-init
loop-token-init c = λ there one. looks_none c.args.self.now _ _ _

pub loop-token-preserved : goal.loop-token-preserved
loop-token-preserved c = λ there one. looks_turn_at c.args.self.now _ _ _ _ _ _ _ (c.loop-token.invariant there one) c.loop-token-test.true
    (c.in_ok-only_from.ensures c.args.place (λ m. one_kid (automaton c.args.self.now) c.args.self.now.found.now c.args.number c.args.over c.args.place _ c.args.wanted there one m))

pub returns : goal.returns
returns c = λ there one. looks_map c.args.self.now _ _ _ _ (λ g. record { each = λ t may. g t (c.tokens-token-items.ensures t) may })
    (looks_all c.args.self.now _ _ _ _ _ (c.loop-token.invariant there one) c.loop-token-test.false)
