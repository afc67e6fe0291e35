use Rattle.std.proofs.Common.{◌≡◌, [], replicate}
use Rattle.vax_codes.proofs.sources.Sources.none.Given as goal

abbrev pub invariant-loop : goal.invariant-loop
invariant-loop l = l.goals.items ≡ replicate l.counter []
