use Rattle.lr_check_found.proofs.Joining.{joins_none, joins_more, joins_within, joins_all}
use Rattle.lr_check_found.proofs.lists.Lists.join.Goals as goal

pub loop-at-init : goal.loop-at-init
loop-at-init c = joins_none c.args.self.now c.args.upper c.args.lower c.get-at.result.now c.get-at.ensures c.requires.lists c.requires.lower

pub bounds-get-at : goal.bounds-get-at
bounds-get-at c = joins_within c.args.self.now c.loop-at.self c.args.upper c.args.lower c.loop-at.at c.loop-at.number c.get-at.result.now c.get.result.now c.requires.upper c.get-at.ensures
    c.get.ensures c.loop-at-test.true c.loop-at.auto.at c.loop-at.invariant

pub loop-at-preserved : goal.loop-at-preserved
loop-at-preserved c = joins_more c.args.self.now c.loop-at.self c.args.upper c.args.lower c.loop-at.at c.loop-at.number c.get-at.result.now c.get.result.now c.requires.upper c.get-at.ensures
    c.get.ensures c.loop-at-test.true c.loop-at.auto.at c.loop-at.invariant c.push.new.self c.in_ok-number.number _ c.in_ok-number.ensures.lists c.in_ok-number.ensures.kept
    c.in_ok-number.ensures.number c.in_ok-number.ensures.there

pub returns-clause-number : goal.returns-clause-number
returns-clause-number c = joins_all c.args.self.now c.loop-at.self c.args.upper c.args.lower c.loop-at.at c.loop-at.number c.requires.upper c.requires.lower c.loop-at-test.false c.loop-at.invariant
