use Rattle.std.proofs.Common.{◌≡◌, ◌++◌}
use Rattle.gg_load.specs.Source.{up_to, call_line}
use Rattle.gg_load.proofs.put_calls.Given as goal

abbrev pub invariant-loop-number : goal.invariant-loop-number
invariant-loop-number l = l.into.items ≡ l.initial.into.items ++ up_to call_line l.number
