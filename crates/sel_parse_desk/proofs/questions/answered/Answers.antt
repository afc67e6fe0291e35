use Rattle.std.proofs.Common.{◌-◌, List, length, drop, ap, sym, ◌∙◌}
use Rattle.lr_check_parse.specs.Attributes.{all_hold}
use Rattle.sel_parse_desk.specs.Entries.{Entry}
use Rattle.sel_parse_desk.specs.Mirror.{selecting_in}
use Rattle.sel_parse_desk.proofs.Reversing.{top_apart}
use Rattle.sel_parse_desk.proofs.questions.answered.Goals as goal

pub loop-restriction-init : goal.loop-restriction-init
loop-restriction-init g c =
    (λ i. all_hold (selecting_in g.T.Templates.meaning c.args.setting.now)
    (drop (length c.args.desk.now.stack.entries - length (c.as_slice-size.ensures i)) c.args.desk.now.stack.entries) (c.as_slice-restriction-items.ensures i))
    ∙ ap (λ (es : List (Entry g.row.T-Operand.Denot)). all_hold (selecting_in g.T.Templates.meaning c.args.setting.now)
    es c.args.rule.now.restrictions) (sym (top_apart c.args.desk.now.stack.entries (length c.args.rule.now.right)))
