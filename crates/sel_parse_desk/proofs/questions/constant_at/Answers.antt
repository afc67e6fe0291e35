use Rattle.std.proofs.Common.{ℕ, Option, ap, sym, ◌∙◌}
use Rattle.std.specs.Prelude.{slice_get}
use Rattle.lr_check_parse.specs.Attributes.{constant_at}
use Rattle.sel_target.specs.declared.attr.Attr.{Attr}
use Rattle.sel_target.specs.Symbols.{constant_of}
use Rattle.sel_parse_desk.specs.Joined.{entry_at}
use Rattle.sel_parse_desk.specs.Mirror.{selecting_in}
use Rattle.sel_parse_desk.proofs.Asking.{constant_in}
use Rattle.sel_parse_desk.proofs.questions.constant_at.Goals as goal

pub returns-in-Some : goal.returns-in-Some
returns-in-Some g c =
    c.constant_of.ensures
    ∙ (ap (λ (h : Attr g.row.T-Operand.Denot). constant_of c.args.setting.now.program.now h) c.attr.ensures.attr
    ∙ (constant_in g.T.Templates.meaning c.args.setting.now.program.now c.args.setting.now.description.now c.args.setting.now.first (slice_get c.args.entries.now c.in-Some.at)
    ∙ ap (λ (o : Option ℕ). constant_at (selecting_in g.T.Templates.meaning c.args.setting.now)
    (entry_at c.args.entries.now o)) (sym c.in-Some.is)))
