use Rattle.std.proofs.Common.{◌≡◌, ◌++◌}
use Rattle.gg_load.specs.Source.{up_to, function_line}
use Rattle.gg_load.proofs.put_functions.Given as goal

abbrev pub invariant-loop-number : goal.invariant-loop-number
invariant-loop-number l = l.into.items ≡ l.initial.into.items ++ up_to function_line l.number
