use Rattle.vax_codes.specs.Sources.{ComeFrom}
use Rattle.vax_codes.proofs.sources.Sources.of.Given as goal

abbrev pub invariant-loop-place : goal.invariant-loop-place
invariant-loop-place l = ComeFrom l.items l.place l.sources
