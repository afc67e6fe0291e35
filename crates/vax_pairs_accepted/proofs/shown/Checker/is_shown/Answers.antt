use Rattle.std.proofs.Common.{map, List, subst}
use Rattle.vax_pairs_cuts.specs.declared.fact.Fact.{Fact}
use Rattle.vax_pairs_cuts.specs.Views.{fact_of, cut_of}
use Rattle.vax_pairs_checked.specs.Accepted.{AreNamed}
use Rattle.vax_pairs_walk.specs.Pieces.{tree_of}
use Rattle.vax_pairs_accepted.specs.Marked.{code_of}
use Rattle.vax_pairs_accepted.proofs.Showing.{shown_by}
use Rattle.vax_pairs_accepted.proofs.shown.Checker.is_shown.Goals as goal

pub returns : goal.returns
returns c =
    let w = c.args.self.pair in
    shown_by (map cut_of w.cuts.now) w.first.cuts.now w.second.cuts.now (code_of w.first) (code_of w.second) (cut_of c.args.cut.now)
    c.args.self.limits.instructions (tree_of c.in_ok-first.first) (tree_of c.in_ok-second.second) c.requires
    (subst (λ (fs : List Fact). AreNamed (map fact_of fs)) c.deref.ensures.value (c.are_named.ensures c.if-not-are_named.false))
    c.in_ok-first.ensures c.in_ok-second.ensures c.in_ok-same_tree.ensures
