-- Which frame each longword of the stack belongs to. The stack begins at `STACK_START` and ends at `STACK_TOP`. Its longwords are numbered
-- from the end down: the one at place n begins at `STACK_TOP` - 4 * (n + 1).
use Rattle.std.specs.Prelude.{◌≡◌, ◌+◌, ◌*◌, ◌%◌, ◌≤◌, ◌<◌, ℕ, false, List, Some, slice_get, slice_index, length, vec_capacity}
use Rattle.std.specs.Global.{Vec}
use Rattle.gg_base.specs.declared.limits.TheConstants.{FRAME_LIMIT, STACK_START, STACK_TOP}
use Rattle.vax_machine_live.specs.declared.frame.Frame.{Frame}
use Rattle.vax_machine_live.specs.Control.{in_control}

-- the frame of this number has control words, the owner of each is kept, and it is that frame
pub record IsOwned (owners : List ℕ) (number : ℕ) (f : Frame) : Type 0 where
  pub long : f.fp + 4 ≤ f.top
  pub aligned : f.fp % 4 ≡ 0
  pub kept : STACK_TOP ≤ f.fp + 4 * length owners
  pub owned :
      (place : ℕ) → f.fp + 4 * (place + 1) ≤ STACK_TOP → STACK_TOP < f.top + 4 * (place + 1) → slice_index owners place ≡ number

pub record AreOwned (frames : List Frame) (owners : List ℕ) : Type 0 where
  pub each : (number : ℕ) (f : Frame) → slice_get frames number ≡ Some f → IsOwned owners number f

-- what a machine keeps of its live frames: room for `FRAME_LIMIT` of them and for the owner of each longword of the stack, and the owners
pub record AreKept (frames : Vec Frame) (owners : Vec ℕ) : Type 0 where
  pub room : vec_capacity frames ≡ FRAME_LIMIT
  pub whole : vec_capacity owners ≡ 2097152
  pub owned : AreOwned frames.items owners.items

-- control words from an address up to another lie in the stack, at multiples of 4, and none of them is a live frame's
pub record HasRoom (frames : List Frame) (fp top : ℕ) : Type 0 where
  pub low : STACK_START ≤ fp
  pub long : fp + 4 ≤ top
  pub high : top ≤ STACK_TOP
  pub begins : fp % 4 ≡ 0
  pub ends : top % 4 ≡ 0
  pub free : (address : ℕ) → fp ≤ address → address < top → in_control frames address 1 ≡ false

-- the longwords from a place up to another have this owner now, and the others the one that they had
pub record Gives (number first last : ℕ) (old new : List ℕ) : Type 0 where
  pub inside : (place : ℕ) → first ≤ place → place < last → slice_index new place ≡ number
  pub below : (place : ℕ) → place < first → slice_index new place ≡ slice_index old place
  pub above : (place : ℕ) → last ≤ place → slice_index new place ≡ slice_index old place
