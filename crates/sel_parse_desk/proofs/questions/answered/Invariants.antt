use Rattle.std.proofs.Common.{◌≡◌, ◌-◌, Some, length, drop}
use Rattle.lr_check_parse.specs.Attributes.{all_hold, answered}
use Rattle.sel_parse_desk.specs.Mirror.{stack_of, selecting_in}
use Rattle.sel_parse_desk.proofs.questions.answered.Given as goal

abbrev pub invariant-loop-restriction : goal.invariant-loop-restriction
invariant-loop-restriction g l =
    let of = selecting_in g.T.Templates.meaning l.setting in
    all_hold of (drop (length l.desk.stack.entries - l.size) l.desk.stack.entries) (drop l.restriction-index l.restriction-items) ≡ answered of l.rule (Some (stack_of l.desk))
