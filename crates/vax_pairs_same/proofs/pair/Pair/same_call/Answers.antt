use Rattle.std.proofs.Common.{map, List, subst}
use Rattle.vax_pairs_cuts.specs.declared.fact.Fact.{Fact}
use Rattle.vax_pairs_cuts.specs.Views.{fact_of, cut_of}
use Rattle.vax_pairs_checked.specs.Accepted.{IsCut}
use Rattle.vax_pairs_walk.specs.Views.{state_of}
use Rattle.vax_pairs_same.specs.Parts.{AllLast}
use Rattle.vax_pairs_same.proofs.Facts.{call_is}
use Rattle.vax_pairs_same.proofs.pair.Pair.same_call.Goals as goal

pub returns : goal.returns
returns c =
    let w = c.args.self in
    let cut = c.in_ok-cut.cut.now in
    let s = state_of c.args.s.now in
    let t = state_of c.args.t.now in
    call_is (IsCut (map cut_of w.cuts.now)) w.first.items.now w.second.items.now (map cut_of w.cuts.now) c.args.name.now
    c.args.places.0 c.args.places.1 cut.rank (map fact_of cut.facts.items) s t
    c.in_ok-both_enter.ensures c.in_ok-cut.ensures c.in_ok-same_control.ensures
    (subst (λ (fs : List Fact). AllLast (map fact_of fs) s t) c.deref.ensures.value c.in_ok-facts_last.ensures)
