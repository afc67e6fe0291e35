-- What a machine is in, and how the parts of a step are chained.
use Rattle.std.specs.Prelude.{◌≡◌, ℕ, List, slice_get, slice_set, Option, Result, Ok, Err}
use Rattle.std.specs.Option.{unwrap_or}
use Rattle.vax_core.specs.declared.code.AreaItem.{AreaItem}
use Rattle.l32_core.specs.declared.operand.Base32.{Base32}
use Rattle.l32_core.specs.declared.operand.Base32.TheVariants.{A, Fp, Sp}
use Rattle.l32_core.specs.declared.code.Item32.{Item32}
use Rattle.l32_machine.specs.declared.turn.Break32.TheVariants as breaks
use Rattle.l32_machine.specs.declared.turn.Stop32.{Stop32}
use Rattle.l32_machine.specs.declared.turn.Stop32.TheVariants.{Broken}
use Rattle.l32_machine.specs.declared.frame.Frame32.{Frame32}

-- the text's data items and its code, the item to be done next, a0 to a11, the frame pointer and the stack pointer,
-- memory, the live frames with the innermost last, and the input that is left; `over` is there once the run is over
pub record State : Type 0 where
  pub layout : List AreaItem
  pub items : List Item32
  pub place : ℕ
  pub general : List ℕ
  pub fp : ℕ
  pub sp : ℕ
  pub area : List ℕ
  pub stack : List ℕ
  pub frames : List Frame32
  pub input : List ℕ
  pub over : Option Stop32

-- what `aN` holds
abbrev pub reg : State → ℕ → ℕ
reg m n = unwrap_or (slice_get m.general n) 0

abbrev pub with_reg : State → ℕ → ℕ → State
with_reg m n v = record m { general = slice_set m.general n v }

-- what the register of a displacement holds
abbrev pub base : State → Base32 → ℕ
base m (A n) = reg m n
base m Fp = m.fp
base m Sp = m.sp

-- the three ways in which a run breaks
abbrev pub access : Stop32
access = Broken breaks.Access

abbrev pub bad_code : Stop32
bad_code = Broken breaks.BadCode

abbrev pub stack_full : Stop32
stack_full = Broken breaks.StackFull

-- one part of a step after another, until the run is over
infixl 10 ◌>>=◌
abbrev pub ◌>>=◌ : {A B : Type 0} → Result A Stop32 → (A → Result B Stop32) → Result B Stop32
(Ok x) >>= f = f x
(Err e) >>= f = Err e

-- what a part of a step returned, and the state after it
abbrev pub Does : {X : Type 0} → Result X Stop32 → State → Result (X × State) Stop32 → Type 0
Does (Ok x) m did = did ≡ Ok (x, m)
Does (Err e) m did = did ≡ Err e

-- the same where nothing is returned
abbrev pub Leaves : {X : Type 0} → Result X Stop32 → State → Result State Stop32 → Type 0
Leaves (Ok x) m did = did ≡ Ok m
Leaves (Err e) m did = did ≡ Err e
