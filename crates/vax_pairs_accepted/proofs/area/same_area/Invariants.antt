use Rattle.std.proofs.Common.{◌≡◌, take}
use Rattle.vax_pairs_accepted.proofs.area.same_area.Given as goal

abbrev pub invariant-loop-i : goal.invariant-loop-i
invariant-loop-i l = take l.i l.a ≡ take l.i l.b
