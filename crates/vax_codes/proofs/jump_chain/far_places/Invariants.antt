use Rattle.std.proofs.Common.{◌<◌, ◌-◌, length}
use Rattle.vax_codes.specs.Hops.{AreStepsOn}
use Rattle.vax_codes.proofs.jump_chain.far_places.Given as goal

abbrev pub invariant-loop-steps : goal.invariant-loop-steps
invariant-loop-steps l = record { some : 0 < l.steps; on : AreStepsOn l.hops l.steps l.places.items }

abbrev pub decreases-loop-steps : goal.decreases-loop-steps
decreases-loop-steps l = length l.hops - l.steps
