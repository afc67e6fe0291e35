use Rattle.std.proofs.Common.{◌≤◌, ◌-◌, length}
use Rattle.vax_pairs_same.proofs.pair.Pair.cut_at.Given as goal

abbrev pub invariant-loop-low : goal.invariant-loop-low
invariant-loop-low l = l.high ≤ length l.self.cuts.now

abbrev pub decreases-loop-low : goal.decreases-loop-low
decreases-loop-low l = l.high - l.low
