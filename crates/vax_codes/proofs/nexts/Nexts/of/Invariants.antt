use Rattle.std.proofs.Common.{drop}
use Rattle.vax_codes.specs.Nexts.{HasNexts}
use Rattle.vax_codes.proofs.nexts.Nexts.of.Given as goal

-- what is next behind the labels from a place on is known
abbrev pub invariant-loop-place : goal.invariant-loop-place
invariant-loop-place l = HasNexts l.nexts (drop l.place l.items) l.place
