use Rattle.std.proofs.Common.{List, get_or, length, sym, ap, ◌∙◌, arith}
use Rattle.sel_target.specs.declared.attr.Attr.{Attr}
use Rattle.sel_parse_desk.proofs.JoinedLemmas.{attr_there, low_at, length-attrs}
use Rattle.sel_parse_desk.proofs.entries.Entries.attr.Goals as goal

pub returns-clause-attr : goal.returns-clause-attr
returns-clause-attr g c =
    sym (attr_there c.args.self.now c.args.at c.index-attrs-at.result c.requires
    (c.index-attrs-at.is ∙ ap (λ (hs : List (Attr g.row.O.Denot)). get_or hs c.args.at c.index-attrs-at.result) c.attrs.ensures.attrs))

pub returns-clause-low : goal.returns-clause-low
returns-clause-low g c =
    let l = length-attrs c.args.self.now in
    let e = ap (λ (hs : List (Attr g.row.O.Denot)). length hs) c.attrs.ensures.attrs in
    low_at c.attrs.result.now c.args.at c.index-attrs-at.result c.attrs.ensures.low (omega (arith, l, e, c.requires)) c.index-attrs-at.is
