use Rattle.std.proofs.Common.{List, slice_get, ap, ◌∙◌}
use Rattle.std.specs.Option.{option_flatten}
use Rattle.sel_parse_desk.specs.Entries.{Entry, kind_in}
use Rattle.sel_parse_desk.proofs.JoinedLemmas.{kind_there}
use Rattle.sel_parse_desk.proofs.entries.Entries.kind.Goals as goal

pub returns : goal.returns
returns g c =
    c.kind_at.ensures
    ∙ (ap (λ (ks : List _). option_flatten (slice_get ks c.args.at)) c.deref.ensures.value
    ∙ (kind_there c.self.inside.kinds.items c.self.inside.attrs.items c.args.at c.self.invariant.0
    ∙ ap (λ (es : List (Entry g.row.O.Denot)). kind_in (slice_get es c.args.at)) c.self.view_is))
