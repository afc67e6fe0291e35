use Rattle.std.proofs.Common.{◌≡◌, drop}
use Rattle.sel_terms.specs.RuleFacts.{alike_once}
use Rattle.sel_terms.proofs.known.alike_once.Given as goal

abbrev pub invariant-loop-restriction : goal.invariant-loop-restriction
invariant-loop-restriction l = alike_once l.restrictions l.i ≡ alike_once (drop l.restriction-index l.restrictions) l.least
