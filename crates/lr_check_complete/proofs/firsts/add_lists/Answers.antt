use Rattle.std.proofs.lemmas.List.Elements.{Contains-get_or}
use Rattle.lr_check_complete.proofs.Gaining.{adding_none, adding_turn, adding_all}
use Rattle.lr_check_complete.proofs.firsts.add_lists.Goals as goal

pub loop-sum-init : goal.loop-sum-init
loop-sum-init c = adding_none _ _ _

pub loop-sum-preserved : goal.loop-sum-preserved
loop-sum-preserved c = adding_turn _ _ _ _ _ _ _ c.loop-sum.invariant c.loop-sum-test.true (Contains-get_or c.args.more.now c.loop-sum.sum-index _ c.loop-sum-test.true) c.in_ok-add_list.ensures

pub returns : goal.returns
returns c = adding_all _ _ _ _ _ c.loop-sum.invariant c.loop-sum-test.false
