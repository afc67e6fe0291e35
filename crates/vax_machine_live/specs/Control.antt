-- Which bytes of the stack are control words of live frames.
use Rattle.std.specs.Prelude.{ℕ, ◌+◌, Bool, ◌&&◌, nat_lt, List}
use Rattle.std.specs.List.{list_any}
use Rattle.vax_machine_live.specs.declared.frame.Frame.{Frame}

-- some of the k bytes from an address on are control words of a frame
abbrev pub overlaps : Frame → ℕ → ℕ → Bool
overlaps f address k = nat_lt f.fp (address + k) && nat_lt address f.top

-- some of the k bytes from an address on are control words of a live frame
abbrev pub in_control : List Frame → ℕ → ℕ → Bool
in_control frames address k = list_any (λ (f : Frame). overlaps f address k) frames
