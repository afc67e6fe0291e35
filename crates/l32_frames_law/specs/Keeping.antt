-- Calls keep what they note, and returns take it back: a1 to a11, fp, sp behind the arguments, and where to go on.
use Rattle.std.specs.Prelude.{◌≡◌, ℕ, ◌≤◌, List, [], ◌∷◌, ◌++◌, slice_get, unwrap_or, Some, None, Ok}
use Rattle.l32_machine.specs.declared.frame.Frame32.{Frame32}
use Rattle.l32_machine.specs.State.{State, reg}
use Rattle.l32_machine.specs.Calls.{noted, called, returned}

-- a call makes one more frame, of what it notes
abbrev pub CallsNote : Type 0
CallsNote = (m n : State) (count place : ℕ) → called m count place ≡ Ok n → n.frames ≡ m.frames ++ noted m count ∷ []

-- what a frame has noted is taken back
pub record TakesBack (outer : List Frame32) (f : Frame32) (n : State) : Type 0 where
  pub frames : n.frames ≡ outer
  pub register : (r : ℕ) → 1 ≤ r → reg n r ≡ unwrap_or (slice_get f.general r) 0
  pub fp : n.fp ≡ f.fp
  pub sp : n.sp ≡ f.sp
  pub goes_on : f.back ≡ Some n.place

-- a return takes back what the innermost frame has noted, whatever code ran since the call
abbrev pub ReturnsTakeBack : Type 0
ReturnsTakeBack =
    (m n : State) (outer : List Frame32) (f : Frame32) → m.frames ≡ outer ++ f ∷ [] → returned m ≡ Ok (None, n) → TakesBack outer f n
