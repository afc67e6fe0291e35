use Rattle.std.proofs.Common.{◌≡◌, [], drop}
use Rattle.tree_homes.specs.Rehoming.{standing}
use Rattle.tree_homes.proofs.rehoming.standing.Given as goal

abbrev pub invariant-loop-number : goal.invariant-loop-number
invariant-loop-number l = standing l.locals l.kept.items (drop l.number-index l.numbers) ≡ standing l.locals [] l.numbers
