-- Machines all of whose live calls may have homes in registers. Those of the innermost call are in the machine's registers; those of a
-- suspended call are among the registers that the frame inside its own has saved.
use Rattle.std.specs.Prelude.{◌≡◌, ℕ, ◌<◌, ◌≤◌, ◌||◌, Bool, false, List, [], ◌∷◌, ◌++◌, slice_index}
use Rattle.std.specs.Prelude.{Option, Some, None}
use Rattle.vax_states.specs.tree_core.specs.declared.program.Object.{Object}
use Rattle.vax_states.specs.tree_core.specs.declared.program.TreeItem.{TreeItem}
use Rattle.vax_states.specs.tree_meaning.specs.State.{Activation, Extent}
use Rattle.vax_states.specs.tree_meaning.specs.State.{State as Trees}
use Rattle.vax_states.specs.vax_machine_lists.specs.Sound.{AllBelow}
use Rattle.vax_states.specs.vax_machine_lists.specs.vax_core.specs.Registers.{reg_number}
use Rattle.vax_states.specs.vax_machine_lists.specs.vax_core.specs.declared.code.CodeItem.{CodeItem}
use Rattle.vax_states.specs.vax_machine_live.specs.declared.frame.Frame.{Frame}
use Rattle.vax_states.specs.vax_machine.specs.declared.turn.Stop.{Stop}
use Rattle.vax_states.specs.vax_machine.specs.State.{State}
use Rattle.vax_frames_law.specs.Guarding.{has}
use Rattle.vax_homes_law.specs.vax_homes.specs.declared.choose.Home.{Home}
use Rattle.vax_homes_law.specs.Alike.{Has, IsPaired}
use Rattle.vax_homes_law.specs.Laying.{is_home_byte}
use Rattle.vax_homes_states.specs.Homes.{AtHome}

-- a live call's frame, and its homes
pub record HomedCall : Type 0 where
  pub frame : Frame
  pub homes : List Home

-- the frames of suspended calls, the innermost first; as frames they stand the innermost last
abbrev pub frames_of : List HomedCall → List Frame
frames_of [] = []
frames_of (c ∷ cs) = frames_of cs ++ c.frame ∷ []

-- a byte of the stack is one of a word of theirs that is a home
abbrev pub is_waiting_byte : List HomedCall → ℕ → Bool
is_waiting_byte [] i = false
is_waiting_byte (c ∷ cs) i = is_home_byte c.homes c.frame.fp i || is_waiting_byte cs i

-- the registers of r2 to r11 that aren't in a frame's mask are as they were at its call
abbrev pub IsIntactFrame : Frame → List ℕ → Type 0
IsIntactFrame f registers = (r : ℕ) → 2 ≤ r → r < 12 → has f.mask r ≡ false → slice_index registers r ≡ slice_index f.saved r

-- A suspended call: a frame inside its own has saved the registers, so its homes, and its own frame was intact then.
pub record IsWaiting (inside : Frame) (c : HomedCall) (e : Extent) (a : Activation) : Type 0 where
  pub paired : IsPaired c.homes
  pub fits : (h : Home) → Has c.homes h → h.local < e.locals
  pub saved : (h : Home) (v : ℕ) → Has c.homes h → a.locals h.local ≡ Some v → slice_index inside.saved (reg_number h.register) ≡ v
  pub intact : IsIntactFrame c.frame inside.saved

-- so are all suspended calls, the innermost first
abbrev pub AreWaiting : Frame → List HomedCall → List Extent → List Activation → Type 0
AreWaiting inside [] es xs = Unit {0}
AreWaiting inside (c ∷ cs) [] xs = ⊥
AreWaiting inside (c ∷ cs) (e ∷ es) [] = ⊥
AreWaiting inside (c ∷ cs) (e ∷ es) (a ∷ xs) = IsWaiting inside c e a × AreWaiting c.frame cs es xs

-- The machine that is m with the stack st stands for a tree state, with the homes of the innermost call c and of the suspended calls cs.
pub record AllAtHome (objects : List Object) (e : Extent) (es : List Extent) (c : HomedCall) (cs : List HomedCall) (t : Trees) (m : State)
    (st : List ℕ) : Type 0 where
  pub home : AtHome objects e es c.homes (is_waiting_byte cs) t m st
  pub frames : m.frames ≡ frames_of cs ++ c.frame ∷ []
  pub intact : IsIntactFrame c.frame m.registers
  pub waiting : AreWaiting c.frame cs es t.callers
  -- whatever the words of homes hold in the machine, they are bytes
  pub bytes : AllBelow 256 st

-- ---- what doesn't matter

-- the place, the code and the items that are still to come
abbrev pub PlacesStayHome : Type 0
PlacesStayHome =
    (objects : List Object) (e : Extent) (es : List Extent) (c : HomedCall) (cs : List HomedCall) (t : Trees) (m : State) (st : List ℕ)
    → AllAtHome objects e es c cs t m st → (place : ℕ) (items : List CodeItem) (over : Option Stop) → over ≡ None
    → AllAtHome objects e es c cs t (record m { place = place; items = items; over = over }) st

abbrev pub ItemsStayHome : Type 0
ItemsStayHome =
    (objects : List Object) (e : Extent) (es : List Extent) (c : HomedCall) (cs : List HomedCall) (t : Trees) (m : State) (st : List ℕ)
    → AllAtHome objects e es c cs t m st → (is : List TreeItem)
    → AllAtHome objects e es c cs (record t { running = record t.running { items = is } }) m st
