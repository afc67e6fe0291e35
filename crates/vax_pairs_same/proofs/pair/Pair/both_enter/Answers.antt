use Rattle.std.proofs.Common.{map, List, ap, sym, ◌∙◌}
use Rattle.vax_machine.specs.Labels.{label_place}
use Rattle.vax_pairs_cuts.specs.declared.fact.Fact.{Fact}
use Rattle.vax_pairs_cuts.specs.Views.{fact_of, cut_of}
use Rattle.vax_pairs_checked.specs.Accepted.{IsCut}
use Rattle.vax_pairs_same.proofs.Facts.{entered_by}
use Rattle.vax_pairs_same.proofs.pair.Pair.both_enter.Goals as goal

pub returns : goal.returns
returns c =
    let w = c.args.self in
    let cs = w.first.items.now in
    let ds = w.second.items.now in
    let mine = c.in_ok-mine.mine in
    let others = c.in_ok-others.others in
    let cut = c.in_ok-cut.cut.now in
    entered_by (IsCut (map cut_of w.cuts.now)) cs ds (map cut_of w.cuts.now) (label_place cs c.args.name.now) (label_place ds c.args.name.now)
    mine.place others.place mine.mask others.mask cut.rank (map fact_of cut.facts.items)
    c.in_ok-mine.ensures c.in_ok-others.ensures c.in_ok-same_mask.ensures c.in_ok-cut.ensures
    (ap (λ (fs : List Fact). map fact_of fs) (sym c.deref.ensures.value) ∙ c.in_ok-nothing_known.ensures)
