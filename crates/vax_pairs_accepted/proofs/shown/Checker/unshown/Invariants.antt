use Rattle.std.proofs.Common.{◌≡◌, [], map, take}
use Rattle.vax_pairs_checked.specs.Accepted.{IsShown}
use Rattle.vax_pairs_cuts.specs.declared.cut.Cut.{Cut}
use Rattle.vax_pairs_cuts.specs.Views.{cut_of}
use Rattle.vax_pairs_accepted.specs.Marked.{code_of}
use Rattle.vax_pairs_accepted.proofs.Alike.{EachOf}
use Rattle.vax_pairs_accepted.proofs.shown.Checker.unshown.Given as goal

abbrev pub invariant-loop-cut : goal.invariant-loop-cut
invariant-loop-cut l = l.unshown.items ≡ []
    → EachOf (λ (cut : Cut). IsShown (map cut_of l.self.pair.cuts.now) (code_of l.self.pair.first) (code_of l.self.pair.second) (cut_of cut))
    (take l.cut-index l.self.pair.cuts.now)
