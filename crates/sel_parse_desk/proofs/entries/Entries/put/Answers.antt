use Rattle.std.proofs.Common.{◌≡◌, List, length, set, slice_get, sym, ap, ◌∙◌, subst, arith, length-set}
use Rattle.std.specs.Prelude.{slice_set}
use Rattle.sel_parse_desk.specs.Entries.{Entry, kind_in}
use Rattle.sel_parse_desk.specs.Joined.{joined}
use Rattle.sel_parse_desk.proofs.JoinedLemmas.{length-joined, joined-set, are_low-set}
use Rattle.sel_parse_desk.proofs.entries.Entries.put.Goals as goal

pub index_mut-requires : goal.index_mut-requires
index_mut-requires g c =
    let long : length c.args.self.now ≡ length c.self.inside.kinds.items =
    sym (ap (λ (es : List (Entry g.row.O.Denot)). length es) c.self.view_is)
    ∙ length-joined c.self.inside.kinds.items c.self.inside.attrs.items c.self.invariant.0 in
    omega (arith, long, c.self.invariant.0, c.requires.within)

pub invariant_of-self : goal.invariant_of-self
invariant_of-self g c = (
  c.self.invariant.0 ∙ sym (length-set c.self.inside.attrs.items c.args.at c.args.attr),
  are_low-set c.self.inside.attrs.items c.args.at c.args.attr c.self.invariant.1 c.requires.low,
)

pub returns : goal.returns
returns g c =
    subst (λ (es : List (Entry g.row.O.Denot)). joined c.self.inside.kinds.items (set c.self.inside.attrs.items c.args.at c.args.attr)
    ≡ slice_set es c.args.at (record { kind = kind_in (slice_get es c.args.at); attr = c.args.attr }))
    c.self.view_is (joined-set c.self.inside.kinds.items c.self.inside.attrs.items c.args.at c.args.attr)
