-- What a machine is in, and how the parts of a step are chained.
use Rattle.std.specs.Prelude.{◌≡◌, ℕ, false, List, slice_index, slice_set, Option, Result, Ok, Err}
use Rattle.vax_core.specs.declared.register.Reg.{Reg}
use Rattle.vax_core.specs.Registers.{reg_number}
use Rattle.vax_core.specs.declared.code.AreaItem.{AreaItem}
use Rattle.vax_core.specs.declared.code.CodeItem.{CodeItem}
use Rattle.gg_base.specs.declared.run.Break.TheVariants as breaks
use Rattle.vax_machine.specs.declared.turn.Stop.{Stop}
use Rattle.vax_machine.specs.declared.turn.Stop.TheVariants.{Broken}
use Rattle.vax_machine_live.specs.declared.frame.Frame.{Frame}
use Rattle.vax_machine.specs.declared.function.Conditions.{Conditions}

-- the text's data items and its code, the item to be done next, registers and condition codes, memory, the live frames
-- with the innermost last, and the input that is left; `over` is there once the run is over
pub record State : Type 0 where
  pub layout : List AreaItem
  pub items : List CodeItem
  pub place : ℕ
  pub registers : List ℕ
  pub conditions : Conditions
  pub area : List ℕ
  pub stack : List ℕ
  pub frames : List Frame
  pub input : List ℕ
  pub over : Option Stop

abbrev pub reg : State → Reg → ℕ
reg m r = slice_index m.registers (reg_number r)

abbrev pub with_reg : State → Reg → ℕ → State
with_reg m r v = record m { registers = slice_set m.registers (reg_number r) v }

abbrev pub cleared : Conditions
cleared = record { negative = false; is_zero = false; carry = false }

abbrev pub with_conditions : State → Conditions → State
with_conditions m c = record m { conditions = c }

-- the four ways in which a run breaks
abbrev pub access : Stop
access = Broken breaks.Access

abbrev pub frame : Stop
frame = Broken breaks.Frame

abbrev pub bad_code : Stop
bad_code = Broken breaks.BadCode

abbrev pub stack_full : Stop
stack_full = Broken breaks.StackFull

-- one part of a step after another, until the run is over
infixl 10 ◌>>=◌
abbrev pub ◌>>=◌ : {A B : Type 0} → Result A Stop → (A → Result B Stop) → Result B Stop
(Ok x) >>= f = f x
(Err e) >>= f = Err e

-- what a part of a step returned, and the state after it
abbrev pub Does : {X : Type 0} → Result X Stop → State → Result (X × State) Stop → Type 0
Does (Ok x) m did = did ≡ Ok (x, m)
Does (Err e) m did = did ≡ Err e

-- the same where nothing is returned
abbrev pub Leaves : {X : Type 0} → Result X Stop → State → Result State Stop → Type 0
Leaves (Ok x) m did = did ≡ Ok m
Leaves (Err e) m did = did ≡ Err e
