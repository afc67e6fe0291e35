-- Tests of what was just computed.
use Rattle.std.specs.Prelude.{◌≡◌, ◌⊎◌, ℕ, suc, ◌+◌, Bool, true, false, ◌&&◌, List, [], ◌∷◌, Option, Some, None, Ok, slice_get}
use Rattle.gg_base.specs.declared.size.Size.{Size}
use Rattle.gg_base.specs.declared.size.Size.TheVariants.{Byte, Word, Long}
use Rattle.vax_core.specs.declared.op.Op.TheVariants.{Tstl}
use Rattle.vax_core.specs.declared.op.Access.{Access}
use Rattle.vax_core.specs.declared.op.Access.TheVariants as accesses
use Rattle.vax_core.specs.declared.op.OperandKind.{OperandKind}
use Rattle.vax_core.specs.declared.operand.Base.{Base}
use Rattle.vax_core.specs.declared.operand.Base.TheVariants as bases
use Rattle.vax_core.specs.declared.operand.Operand.{Operand}
use Rattle.vax_core.specs.declared.register.Reg.{Reg}
use Rattle.vax_core.specs.declared.code.Instr.{Instr}
use Rattle.vax_core.specs.declared.code.Code.{Code}
use Rattle.vax_core.specs.declared.code.CodeItem.{CodeItem}
use Rattle.vax_core.specs.declared.code.CodeItem.TheVariants as item_kind
use Rattle.vax_core.specs.Ops.{shape}
use Rattle.vax_core.specs.Valid.{is_code}
use Rattle.vax_machine.specs.declared.function.Action.{Action}
use Rattle.vax_machine.specs.declared.function.Action.TheVariants.{Compute, Push, Branch, Call, Return}
use Rattle.vax_machine.specs.declared.function.Function.{Function}
use Rattle.vax_machine.specs.declared.function.Function.TheVariants as functions
use Rattle.vax_machine.specs.State.{State}
use Rattle.vax_machine.specs.Functions.{action_of}
use Rattle.vax_machine.specs.Labels.{next_item}
use Rattle.vax_machine.specs.Step.{act}
use Rattle.vax_machine_lists.specs.Sound.{IsRunning}
use Rattle.vax_alike.specs.Alike.{Alike}
use Rattle.vax_codes.specs.Carry.{IsCarrySet}

-- ---- instructions that write or change a longword, with N and Z from it

abbrev pub is_written : Access → Bool
is_written accesses.Read = false
is_written accesses.Modify = true
is_written accesses.Write = true
is_written accesses.Address = false
is_written accesses.Count = false

abbrev pub is_long : Size → Bool
is_long Byte = false
is_long Word = false
is_long Long = true

abbrev pub ends_written : List OperandKind → Bool
ends_written [] = false
ends_written (k ∷ []) = is_written k.access && is_long k.size
ends_written (k ∷ (j ∷ ks)) = ends_written (j ∷ ks)

abbrev pub last_operand : List Operand → Option Operand
last_operand [] = None
last_operand (o ∷ []) = Some o
last_operand (o ∷ (p ∷ os)) = last_operand (p ∷ os)

-- C is 0 behind it
abbrev pub function_clears : Function → Bool
function_clears (functions.SignExtend size) = true
function_clears (functions.Truncate size) = true
function_clears functions.Multiply = true
function_clears functions.Divide = true
function_clears functions.Shift = true
function_clears (functions.CompareWithZero size) = true
function_clears f = false

abbrev pub clears : Action → Bool
clears (Compute f) = function_clears f
clears Push = false
clears (Branch t) = false
clears Call = false
clears Return = false

-- a register, `(r)`, `d(r)`, absolute or a label's address, without index
abbrev pub is_plain_base : Base → Bool
is_plain_base (bases.Reg r) = true
is_plain_base (bases.Def r) = true
is_plain_base (bases.Disp a r) = true
is_plain_base (bases.Abs n) = true
is_plain_base (bases.Rel a) = true
is_plain_base b = false

abbrev pub is_plain_at : Base → Option Reg → Bool
is_plain_at b None = is_plain_base b
is_plain_at b (Some x) = false

abbrev pub is_plain : Operand → Bool
is_plain o = is_plain_at o.base o.index

-- ---- needless tests

-- the instruction at a place tests what the one before it has computed
pub record IsNeedless (R : ℕ → Type 0) (cs : List CodeItem) (at : ℕ) : Type 0 where
  pub before : ℕ
  pub place : at ≡ before + 1
  pub test : Instr
  pub writer : Instr
  pub operand : Operand
  pub here : slice_get cs at ≡ Some (item_kind.Instr test)
  pub first : slice_get cs before ≡ Some (item_kind.Instr writer)
  pub tests : test.op ≡ Tstl
  pub tested : test.operands ≡ operand ∷ []
  pub plain : is_plain operand ≡ true
  pub function : Function
  pub computes : action_of writer.op ≡ Compute function
  pub writes : ends_written (shape writer.op).operands ≡ true
  pub written : last_operand writer.operands ≡ Some operand
  pub carry : (function_clears function ≡ true) ⊎ (R (at + 1) → ⊥)

-- the second list is the first, from a place on, without so many needless tests
pub data Untested (R : ℕ → Type 0) (cs : List CodeItem) : ℕ → ℕ → List CodeItem → List CodeItem → Type 0 where
  none : {at : ℕ} → Untested R cs at 0 [] []
  kept : {at k : ℕ} {c d : List CodeItem} (x : CodeItem) → Untested R cs (suc at) k c d → Untested R cs at k (x ∷ c) (x ∷ d)
  dropped : {at k : ℕ} {c d : List CodeItem} (i : Instr) → IsNeedless R cs at → Untested R cs (suc at) k c d
      → Untested R cs at (suc k) (item_kind.Instr i ∷ c) d

-- ---- what the machine has to show

-- the next step changes nothing but C, which becomes 0
pub record Tests (m : State) : Type 0 where
  pub acts : act m ≡ Ok (
    None,
    record m {
      place = next_item m.items m.place + 1;
      conditions = record { negative = m.conditions.negative; is_zero = m.conditions.is_zero; carry = false };
    },
  )

-- Behind an instruction that computes a longword, a test of it does that.
abbrev pub ResultsTestAgain : Type 1
ResultsTestAgain =
    (R : ℕ → Type 0) (m n : State) (o : Option ℕ) (at : ℕ) (h : IsNeedless R m.items at) → IsRunning m
    → next_item m.items m.place ≡ h.before → act m ≡ Ok (o, n)
    → Tests n × (function_clears h.function ≡ true → n.conditions.carry ≡ false)

-- A code that can be written behaves alike without some of its needless tests, whatever set of places at which C may be read is taken.
abbrev pub UntestedIsAlike : Type 0
UntestedIsAlike =
    (reads : ℕ → Bool) (c d : Code) (number : ℕ) → is_code c ≡ true → d.area ≡ c.area → IsCarrySet (λ p. reads p ≡ true) c.items
    → Untested (λ p. reads p ≡ true) c.items 0 number c.items d.items → Alike c d
