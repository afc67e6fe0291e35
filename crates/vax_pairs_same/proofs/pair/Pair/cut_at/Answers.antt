use Rattle.std.proofs.Common.{◌+◌, ◌-◌, ◌/◌, ◌<◌, length, slice_index_or, arith}
use Rattle.std.proofs.lemmas.Option.{slice_get-get_or}
use Rattle.vax_pairs_same.proofs.Facts.{cut_there}
use Rattle.vax_pairs_same.proofs.pair.Pair.cut_at.Goals as goal

pub returns-then-cut-second : goal.returns-then-cut-second
returns-then-cut-second c =
    let cuts = c.args.self.cuts.now in
    let d = c.index-self-middle.result in
    let i = c.loop-low.low + (c.loop-low.high - c.loop-low.low) / 2 in
    let below : i < length cuts = omega (arith, c.loop-low-test.true, c.loop-low.invariant) in
    cut_there cuts i (slice_index_or cuts i d) c.args.first c.args.second (slice_get-get_or cuts i d below) c.if-cut-first.true c.if-cut-second.true
