use Rattle.std.proofs.Common.{refl}
use Rattle.lr_checked.proofs.Printing.{lines_turn, lines_all}
use Rattle.lr_checked.proofs.lines.put_nodes.Goals as goal

pub loop-number-init : goal.loop-number-init
loop-number-init c = refl

pub loop-number-preserved : goal.loop-number-preserved
loop-number-preserved c = lines_turn c.args.nodes.now c.loop-number.number c.index-nodes-number.result c.loop-number.into.items c.put_node.new.into.items _ c.loop-number.invariant
    c.loop-number-test.true c.index-nodes-number.is c.in_ok-put_node.ensures

pub returns : goal.returns
returns c = lines_all c.args.nodes.now c.loop-number.number _ _ c.loop-number.invariant c.loop-number-test.false
