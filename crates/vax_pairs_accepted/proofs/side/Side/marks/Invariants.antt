use Rattle.std.proofs.Common.{◌≡◌, ℕ, ◌||◌, map, drop}
use Rattle.vax_pairs_walk.specs.Stepping.{is_marked}
use Rattle.vax_pairs_cuts.specs.Views.{cut_of}
use Rattle.vax_pairs_accepted.specs.Sides.{is_place}
use Rattle.vax_pairs_accepted.proofs.side.Side.marks.Given as goal

abbrev pub invariant-loop-cut : goal.invariant-loop-cut
invariant-loop-cut l =
    (p : ℕ) → (is_marked l.marks.items p || is_place l.self (map cut_of (drop l.cut-index l.cuts)) p) ≡ is_place l.self (map cut_of l.cuts) p
