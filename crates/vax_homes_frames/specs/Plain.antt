-- Without homes all is as `vax_states` has it.
use Rattle.std.specs.Prelude.{◌≡◌, ℕ, List, [], ◌∷◌, ◌++◌}
use Rattle.vax_states.specs.tree_core.specs.declared.program.Object.{Object}
use Rattle.vax_states.specs.tree_meaning.specs.State.{Extent}
use Rattle.vax_states.specs.tree_meaning.specs.State.{State as Trees}
use Rattle.vax_states.specs.vax_machine_live.specs.declared.frame.Frame.{Frame}
use Rattle.vax_states.specs.vax_machine.specs.State.{State}
use Rattle.vax_states.specs.Agreeing.{Agrees}
use Rattle.vax_homes_law.specs.Calling.{with_stack}
use Rattle.vax_homes_frames.specs.Live.{HomedCall, frames_of, IsIntactFrame, AllAtHome}

-- no call has a home
abbrev pub HaveNone : List HomedCall → Type 0
HaveNone [] = Unit {0}
HaveNone (c ∷ cs) = (c.homes ≡ []) × HaveNone cs

-- the frames of suspended calls are intact, each with the registers that the frame inside it has saved
abbrev pub AreIntactFrames : Frame → List HomedCall → Type 0
AreIntactFrames inside [] = Unit {0}
AreIntactFrames inside (c ∷ cs) = IsIntactFrame c.frame inside.saved × AreIntactFrames c.frame cs

-- a state stands for a tree state as `vax_states` has it, these calls' frames are live, and all of them are intact
pub record AgreesIntact (objects : List Object) (e : Extent) (es : List Extent) (c : HomedCall) (cs : List HomedCall) (t : Trees)
    (m : State) : Type 0 where
  pub agrees : Agrees objects e es t m
  pub frames : m.frames ≡ frames_of cs ++ c.frame ∷ []
  pub intact : IsIntactFrame c.frame m.registers
  pub others : AreIntactFrames c.frame cs

-- Without homes a machine that is at home is one that stands for the tree state by itself, and the other way round.
pub record HomelessAreAsBefore (objects : List Object) (e : Extent) (es : List Extent) (c : HomedCall) (cs : List HomedCall) (t : Trees)
    (m : State) : Type 0 where
  pub from : (st : List ℕ) → AllAtHome objects e es c cs t m st → AgreesIntact objects e es c cs t (with_stack m st)
  pub to : AgreesIntact objects e es c cs t m → AllAtHome objects e es c cs t m m.stack

abbrev pub HomelessAgree : Type 0
HomelessAgree =
    (objects : List Object) (e : Extent) (es : List Extent) (c : HomedCall) (cs : List HomedCall) (t : Trees) (m : State)
    → HaveNone (c ∷ cs) → HomelessAreAsBefore objects e es c cs t m
