use Rattle.std.proofs.Common.{map, subst, arith}
use Rattle.std.proofs.lemmas.List.{take_all}
use Rattle.vax_pairs_checked.specs.Accepted.{IsShown}
use Rattle.vax_pairs_cuts.specs.declared.cut.Cut.{Cut}
use Rattle.vax_pairs_cuts.specs.Views.{cut_of}
use Rattle.vax_pairs_accepted.specs.Marked.{code_of}
use Rattle.vax_pairs_accepted.proofs.Alike.{each_more, each_at, EachOf}
use Rattle.vax_pairs_accepted.proofs.shown.Checker.unshown.Goals as goal

pub loop-cut-preserved : goal.loop-cut-preserved
loop-cut-preserved c = λ none.
    let h = c.in_ok-look.ensures none in
    let w = c.args.self.pair in
    let here = subst (λ (x : Cut). IsShown (map cut_of w.cuts.now) (code_of w.first) (code_of w.second) (cut_of x)) c.cut-item.is h.1 in
    each_more (λ (x : Cut). IsShown (map cut_of w.cuts.now) (code_of w.first) (code_of w.second) (cut_of x)) w.cuts.now c.loop-cut.cut-index
    c.cut-item.result (omega arith) (c.loop-cut.invariant h.0) here

pub returns : goal.returns
returns c = λ none i cut e.
    let w = c.args.self.pair in
    each_at cut_of (λ cut. IsShown (map cut_of w.cuts.now) (code_of w.first) (code_of w.second) cut) w.cuts.now
    (subst (EachOf (λ (cut : Cut). IsShown (map cut_of w.cuts.now) (code_of w.first) (code_of w.second) (cut_of cut)))
    (take_all c.loop-cut.cut-index w.cuts.now (omega arith)) (c.loop-cut.invariant none)) i cut e
