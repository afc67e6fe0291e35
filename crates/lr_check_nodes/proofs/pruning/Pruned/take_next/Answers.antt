use Rattle.lr_check_nodes.proofs.Renumbering.{next_kept, next_left_out}
use Rattle.lr_check_nodes.proofs.pruning.Pruned.take_next.Goals as goal

pub returns-then-marks-number : goal.returns-then-marks-number
returns-then-marks-number c = next_kept c.keep.result c.args.nodes.now c.args.marks.now c.args.self.now c.keep.new.self c.args.number c.index-nodes-number.result _ c.requires.sample c.requires.marks
    c.requires.pruning c.requires.there c.index-nodes-number.is c.if-marks-number.true c.keep.ensures

pub returns-else-marks-number : goal.returns-else-marks-number
returns-else-marks-number c = next_left_out c.leave_out.result c.args.nodes.now c.args.marks.now c.args.self.now c.leave_out.new.self c.args.number _ c.requires.sample c.requires.marks
    c.requires.pruning c.requires.there c.if-marks-number.false c.leave_out.ensures
