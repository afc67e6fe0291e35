use Rattle.std.proofs.Common.{List, sym, ap, ◌∙◌}
use Rattle.sel_parse_desk.specs.Entries.{Entry, attrs}
use Rattle.sel_parse_desk.proofs.JoinedLemmas.{attrs-joined}
use Rattle.sel_parse_desk.proofs.entries.Entries.attrs.Goals as goal

pub returns-clause-attrs : goal.returns-clause-attrs
returns-clause-attrs g c =
    c.deref.ensures.value
    ∙ (sym (attrs-joined c.self.inside.kinds.items c.self.inside.attrs.items c.self.invariant.0) ∙ ap (λ (es : List (Entry g.row.O.Denot)). attrs es) c.self.view_is)
