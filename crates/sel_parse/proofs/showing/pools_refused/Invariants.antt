use Rattle.std.proofs.Common.{◌≡◌, ◌+◌, drop}
use Rattle.sel_parse.specs.Shown.{pools_refused}
use Rattle.sel_parse.proofs.showing.pools_refused.Given as goal

abbrev pub invariant-loop-number : goal.invariant-loop-number
invariant-loop-number l = pools_refused l.registers l.classes 1 l.rules ≡ pools_refused l.registers l.classes (l.number + 1) (drop l.number l.rules)
