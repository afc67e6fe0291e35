use Rattle.std.proofs.Common.{◌≡◌}
use Rattle.sel_terms.specs.RuleFacts.{repeated, alike_once}
use Rattle.sel_terms.proofs.known.least_alike.Given as goal

abbrev pub invariant-loop-turn : goal.invariant-loop-turn
invariant-loop-turn l = l.least ≡ repeated l._turn (alike_once l.restrictions) l.i
