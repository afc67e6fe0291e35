use Rattle.std.proofs.Common.{◌≡◌, ℕ, ◌<◌, length, None}
use Rattle.std.specs.Prelude.{slice_index_or}
use Rattle.vax_codes.specs.Hops.{last_of}
use Rattle.vax_codes.proofs.jump_chain.last_names.Given as goal

abbrev pub invariant-loop-place : goal.invariant-loop-place
invariant-loop-place l = record {
  each : length l.names.items ≡ l.place;
  name : (p : ℕ) → p < l.place → slice_index_or l.names.items p None ≡ last_of l.items l.hops.items l.places.items p;
}
