use Rattle.std.proofs.Common.{◌≡◌, ℕ, ◌<◌, length}
use Rattle.std.specs.Prelude.{slice_index_or}
use Rattle.vax_codes.specs.Hops.{step}
use Rattle.vax_codes.proofs.jump_chain.first_steps.Given as goal

abbrev pub invariant-loop-place : goal.invariant-loop-place
invariant-loop-place l = record {
  each : length l.places.items ≡ l.place;
  step : (p : ℕ) → p < l.place → slice_index_or l.places.items p 0 ≡ step l.hops p;
}
