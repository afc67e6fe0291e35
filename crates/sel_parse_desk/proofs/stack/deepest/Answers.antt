use Rattle.std.proofs.Common.{List, ap, ◌∙◌}
use Rattle.sel_target.specs.declared.attr.Attr.{Attr}
use Rattle.sel_target.specs.Symbols.{first_that}
use Rattle.sel_parse_desk.specs.Spills.{holds_some}
use Rattle.sel_parse_desk.proofs.Tallies.{settled_tallied, found_unsettled}
use Rattle.sel_parse_desk.proofs.stack.deepest.Goals as goal

pub returns-clause-unsettled : goal.returns-clause-unsettled
returns-clause-unsettled g c =
    found_unsettled g.T.Templates.meaning c.args.stack.now.entries c.first_from-found.result c.len.result c.unwrap_or-stack.result
    (c.first_from-found.ensures ∙ ap (λ (hs : List (Attr g.row.T-Operand.Denot)). first_that (holds_some g.T.Templates.meaning) hs) c.attrs.ensures.attrs) c.unwrap_or-stack.ensures

pub returns-clause-tallied : goal.returns-clause-tallied
returns-clause-tallied g c =
    settled_tallied g.T.Templates.meaning c.args.stack.now.entries c.args.stack.now.tally.registers.items c.args.stack.now.tally.words.items c.first_from-found.result c.len.result
    c.args.stack.now.settled c.unwrap_or-stack.result c.requires.tallied
    (c.first_from-found.ensures ∙ ap (λ (hs : List (Attr g.row.T-Operand.Denot)). first_that (holds_some g.T.Templates.meaning) hs) c.attrs.ensures.attrs) c.len.ensures c.unwrap_or-stack.ensures
