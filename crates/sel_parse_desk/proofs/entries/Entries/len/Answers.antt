use Rattle.std.proofs.Common.{◌≡◌, List, length, sym, ap, ◌∙◌, arith}
use Rattle.sel_parse_desk.specs.Entries.{Entry}
use Rattle.sel_parse_desk.proofs.JoinedLemmas.{length-joined}
use Rattle.sel_parse_desk.proofs.entries.Entries.len.Goals as goal

pub returns : goal.returns
returns g c =
    let long : length c.args.self.now ≡ length c.self.inside.kinds.items =
    sym (ap (λ (es : List (Entry g.row.O.Denot)). length es) c.self.view_is)
    ∙ length-joined c.self.inside.kinds.items c.self.inside.attrs.items c.self.invariant.0 in
    omega (arith, long, c.len.ensures)
