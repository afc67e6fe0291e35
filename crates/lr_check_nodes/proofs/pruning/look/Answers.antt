use Rattle.lr_check_nodes.proofs.Marking.{look_marked, look_unmarked}
use Rattle.lr_check_nodes.proofs.pruning.look.Goals as goal

pub returns-then-marks-number : goal.returns-then-marks-number
returns-then-marks-number c = look_marked c.args.nodes.now c.args.marks.now c.mark.new.marks c.args.number c.index-nodes-number.result _ c.kids.result.now c.requires.sample c.requires.reaching
    c.requires.there c.index-nodes-number.is c.if-marks-number.true c.kids.ensures c.mark.ensures

pub returns-else-marks-number : goal.returns-else-marks-number
returns-else-marks-number c = look_unmarked c.args.nodes.now c.args.marks.now c.args.number _ c.requires.reaching c.requires.there c.if-marks-number.false
