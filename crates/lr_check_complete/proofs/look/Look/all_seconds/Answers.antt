use Rattle.std.proofs.lemmas.List.Elements.{Contains-get_or}
use Rattle.lr_check_complete.proofs.Turns.{looks_none, looks_turn_at, looks_all}
use Rattle.lr_check_complete.proofs.look.Look.all_seconds.Goals as goal

pub loop-sum-init : goal.loop-sum-init
loop-sum-init c = λ two. looks_none c.args.self.now _ _ _

pub loop-sum-preserved : goal.loop-sum-preserved
loop-sum-preserved c = λ two. looks_turn_at c.args.self.now _ _ _ _ _ _ _ (c.loop-sum.invariant two) c.loop-sum-test.true
    (c.in_ok-seconds.ensures (two _ (Contains-get_or c.args.sums.now c.loop-sum.sum-index _ c.loop-sum-test.true)))

pub returns : goal.returns
returns c = λ two. looks_all c.args.self.now _ _ _ _ _ (c.loop-sum.invariant two) c.loop-sum-test.false
