use Rattle.std.proofs.Common.{sym}
use Rattle.lr_check_complete.proofs.Turns.{looks_none, looks_turn, looks_all}
use Rattle.lr_check_complete.proofs.look.Look.by_choices.Goals as goal

pub loop-choice-init : goal.loop-choice-init
loop-choice-init c = λ each. looks_none c.args.self.now _ _ _

pub loop-choice-preserved : goal.loop-choice-preserved
loop-choice-preserved c = λ each. looks_turn c.args.self.now _ _ _ c.choice-item.result _ _ _ (c.loop-choice.invariant each) c.choice-item.is
    (c.in_ok-by_choice.ensures (each c.choice-item.result (c.loop-choice.choice-index, c.loop-choice-test.true, sym c.choice-item.is)))

pub returns : goal.returns
returns c = λ each. looks_all c.args.self.now _ _ _ _ _ (c.loop-choice.invariant each) c.loop-choice-test.false
