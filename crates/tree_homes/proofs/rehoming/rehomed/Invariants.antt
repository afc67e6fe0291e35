use Rattle.tree_homes.specs.Rehoming.{AreRehomed}
use Rattle.tree_homes.proofs.rehoming.rehomed.Given as goal

abbrev pub invariant-loop-function : goal.invariant-loop-function
invariant-loop-function g l = AreRehomed (λ f n. g.H.HomeChoice.chooses l.homes f n) l.yielded l.functions.items
