-- The states that a run comes to, and those that it comes to while a call goes on.
use Rattle.std.specs.Prelude.{◌≡◌, ℕ, List, ◌++◌, None, Ok}
use Rattle.vax_core.specs.declared.code.Code.{Code}
use Rattle.vax_core.specs.First.{main_name}
use Rattle.vax_machine_live.specs.declared.frame.Frame.{Frame}
use Rattle.vax_machine.specs.State.{State}
use Rattle.vax_machine.specs.Labels.{label_place}
use Rattle.vax_machine.specs.Calls.{called}
use Rattle.vax_machine.specs.Step.{step_of, Goes, Writes}
use Rattle.vax_machine.specs.Loading.{blank}

-- A state of the run of a code on an input: the one in which it begins, or one behind a step.
pub data Reached (c : Code) (input : List ℕ) : State → Type 0 where
  begins : (n : State) → called (blank c input) 0 (label_place c.items main_name) None ≡ Ok n → Reached c input n
  goes : (m n : State) → Reached c input m → step_of m ≡ Goes n → Reached c input n
  writes : (byte : ℕ) (m n : State) → Reached c input m → step_of m ≡ Writes byte n → Reached c input n

-- the frames that are live in the first state are live in the second, with further ones inside them
pub record HasFramesOf (n t : State) : Type 0 where
  pub inner : List Frame
  pub are : t.frames ≡ n.frames ++ inner

-- A state that a run comes to from another one, whose frames are live all the way: so a call that was just made goes on.
pub data GoesOn (n : State) : State → Type 0 where
  here : GoesOn n n
  goes_on : (s t : State) → GoesOn n s → step_of s ≡ Goes t → HasFramesOf n t → GoesOn n t
  writes_on : (byte : ℕ) (s t : State) → GoesOn n s → step_of s ≡ Writes byte t → HasFramesOf n t → GoesOn n t
