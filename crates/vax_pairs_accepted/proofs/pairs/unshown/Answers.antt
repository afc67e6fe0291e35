use Rattle.std.proofs.Common.{map, sym, ◌∙◌}
use Rattle.vax_pairs_cuts.specs.Views.{cut_of}
use Rattle.vax_pairs_accepted.proofs.Accepting.{accepted_by}
use Rattle.vax_pairs_accepted.proofs.pairs.unshown.Goals as goal

pub returns : goal.returns
returns c = λ none keeps others_keep.
    accepted_by (map cut_of c.args.cuts.now) c.args.c.now c.args.d.now c.as_slice-3.result.now c.as_slice-4.result.now
    c.as_slice-items.result.now c.as_slice-others.result.now c.as_slice-3.ensures c.as_slice-4.ensures
    c.as_slice-items.ensures c.as_slice-others.ensures
    (sym c.as_slice-2.ensures ∙ c.same_area.ensures c.if-not-same_area.false ∙ c.as_slice.ensures) keeps others_keep
    c.in_ok-both_enter.ensures (c.in_ok-unshown.ensures none)
