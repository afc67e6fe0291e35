-- What holds of a machine's state as long as its run goes on.
use Rattle.std.specs.Prelude.{◌≡◌, ℕ, ◌^◌, ◌<◌, ◌≤◌, true, List, [], ◌∷◌, length, None}
use Rattle.std.specs.List.{list_all}
use Rattle.gg_base.specs.declared.limits.TheConstants.{AREA_LIMIT, STACK_SIZE}
use Rattle.vax_core.specs.declared.code.Code.{Code}
use Rattle.vax_core.specs.Valid.{is_code_item, is_code}
use Rattle.vax_machine_live.specs.declared.frame.Frame.{Frame}
use Rattle.vax_machine.specs.State.{State}
use Rattle.vax_machine.specs.Step.{Next, Goes, Writes, Stops, step_of}
use Rattle.vax_machine.specs.Loading.{Loads, start}

-- all numbers of a list are below a bound
abbrev pub AllBelow : ℕ → List ℕ → Type 0
AllBelow bound [] = Unit {0}
AllBelow bound (n ∷ ns) = (n < bound) × AllBelow bound ns

-- A machine that goes on: 15 registers with longwords, the whole stack, a data area that may be so long, and bytes in
-- both and in the input.
pub record IsSound (m : State) : Type 0 where
  pub going : m.over ≡ None
  pub registers : length m.registers ≡ 15
  pub longwords : AllBelow (2 ^ 32) m.registers
  pub stack : length m.stack ≡ STACK_SIZE
  pub stack_bytes : AllBelow 256 m.stack
  pub area : length m.area ≤ AREA_LIMIT
  pub area_bytes : AllBelow 256 m.area
  pub input_bytes : AllBelow 256 m.input

-- the registers that each live frame saves are longwords
abbrev pub AreSaved : List Frame → Type 0
AreSaved [] = Unit {0}
AreSaved (f ∷ fs) = AllBelow (2 ^ 32) f.saved × AreSaved fs

-- a machine that goes on in a code that can be written
pub record IsRunning (m : State) : Type 0 where
  pub sound : IsSound m
  pub saved : AreSaved m.frames
  pub valid : list_all is_code_item m.items ≡ true

-- what holds behind a step by which the run is not over
abbrev pub Behind : (State → Type 0) → Next → Type 0
Behind P (Goes n) = P n
Behind P (Writes b n) = P n
Behind P (Stops e) = Unit {0}

-- each step of a machine that goes on leaves such a machine, unless the run is over
abbrev pub StepsStaySound : Type 0
StepsStaySound = (m : State) → IsRunning m → Behind IsRunning (step_of m)

-- a code that can be written and has no fault begins so on each input of bytes, unless its run is over at once
abbrev pub RunsBeginSound : Type 0
RunsBeginSound =
    (c : Code) (input : List ℕ) → is_code c ≡ true → Loads c → AllBelow 256 input → (start c input).over ≡ None → IsRunning (start c input)
