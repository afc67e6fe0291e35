use Rattle.std.proofs.Common.{ℕ, Option, ap, sym, ◌∙◌}
use Rattle.std.specs.Prelude.{slice_get}
use Rattle.lr_check_parse.specs.Attributes.{relation_at}
use Rattle.sel_target.specs.declared.attr.Attr.{Attr}
use Rattle.sel_target.specs.Symbols.{relation_of}
use Rattle.sel_parse_desk.specs.Joined.{entry_at}
use Rattle.sel_parse_desk.specs.Mirror.{selecting_in}
use Rattle.sel_parse_desk.proofs.Asking.{relation_in}
use Rattle.sel_parse_desk.proofs.questions.relation_at.Goals as goal

pub returns-in-Some : goal.returns-in-Some
returns-in-Some g c =
    c.relation_of.ensures
    ∙ (ap (λ (h : Attr g.row.T-Operand.Denot). relation_of h) c.attr.ensures.attr
    ∙ (relation_in g.T.Templates.meaning c.args._setting.now.program.now c.args._setting.now.description.now c.args._setting.now.first (slice_get c.args.entries.now c.in-Some.at)
    ∙ ap (λ (o : Option ℕ). relation_at (selecting_in g.T.Templates.meaning c.args._setting.now)
    (entry_at c.args.entries.now o)) (sym c.in-Some.is)))
