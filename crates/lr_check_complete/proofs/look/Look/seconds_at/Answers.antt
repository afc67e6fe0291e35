use Rattle.std.proofs.lemmas.List.Elements.{Contains-get_or}
use Rattle.lr_check_complete.proofs.Turns.{looks_none, looks_turn_at, looks_all}
use Rattle.lr_check_complete.proofs.look.Look.seconds_at.Goals as goal

pub loop-number-init : goal.loop-number-init
loop-number-init c = λ e at behind two. looks_none c.args.self.now _ _ _

pub loop-number-preserved : goal.loop-number-preserved
loop-number-preserved c = λ e at behind two. looks_turn_at c.args.self.now _ _ _ _ _ _ _ (c.loop-number.invariant e at behind two) c.loop-number-test.true
    (c.in_ok-second.ensures e at behind (two _ (Contains-get_or c.args.numbers.now c.loop-number.number-index _ c.loop-number-test.true)))

pub returns : goal.returns
returns c = λ e at behind two. looks_all c.args.self.now _ _ _ _ _ (c.loop-number.invariant e at behind two) c.loop-number-test.false
