use Rattle.std.proofs.Common.{subst}
use Rattle.lr_check_drawn.specs.Rising.{AfterParent, HasParent}
use Rattle.lr_check_drawn.proofs.Rises.{rising_none, rising_more, rising_settled, risen}
use Rattle.lr_check_drawn.proofs.rising.rise.Goals as goal

pub above-init : goal.above-init
above-init c = rising_none c.args.found.now c.args.growing.now c.args.place c.args.top c.is_whole.ensures c.requires.stands

pub add_parent-requires-clause-settled : goal.add_parent-requires-clause-settled
add_parent-requires-clause-settled c =
    rising_settled c.args.found.now c.args.growing.now c.above.growing c.args.place c.args.top c.above.standing.place c.above.standing.node c.requires.settled c.above.invariant

pub above-preserved : goal.above-preserved
above-preserved c = rising_more c.args.found.now c.args.growing.now c.above.growing c.add_parent.new.growing c.args.place c.args.top c.above.standing.place c.above.standing.node
    c.in-Some.parent.place c.in-Some.parent.node c.above.invariant
    (subst (AfterParent c.args.found.now c.above.growing c.add_parent.new.growing c.above.standing.place c.above.standing.node) c.in-Some.is c.in_ok-next.ensures)

pub above-smaller : goal.above-smaller
above-smaller c =
    let h : HasParent c.args.found.now c.above.growing c.add_parent.new.growing c.above.standing.place c.above.standing.node c.in-Some.parent.place c.in-Some.parent.node =
    subst (AfterParent c.args.found.now c.above.growing c.add_parent.new.growing c.above.standing.place c.above.standing.node) c.in-Some.is c.in_ok-next.ensures in
    h.earlier

pub returns-in-None : goal.returns-in-None
returns-in-None c = risen c.args.found.now c.args.growing.now c.above.growing c.add_parent.new.growing c.args.place c.args.top c.above.standing.place c.above.standing.node
    c.requires.begun c.above.invariant
    (subst (AfterParent c.args.found.now c.above.growing c.add_parent.new.growing c.above.standing.place c.above.standing.node) c.in-None.is c.in_ok-next.ensures)
