use Rattle.std.proofs.Common.{◌≡◌, ℕ, ◌<◌, length}
use Rattle.std.specs.Prelude.{slice_index_or}
use Rattle.vax_codes.proofs.jump_chain.twice.Given as goal

abbrev pub invariant-loop-place : goal.invariant-loop-place
invariant-loop-place l = record {
  each : length l.twice.items ≡ l.place-index;
  step : (p : ℕ) → p < l.place-index → slice_index_or l.twice.items p 0 ≡ slice_index_or l.places (slice_index_or l.places p 0) 0;
}
