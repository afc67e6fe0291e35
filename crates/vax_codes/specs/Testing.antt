-- How needless tests are dropped, item by item.
use Rattle.std.specs.Prelude.{◌<◌, ℕ, suc, ◌+◌, Bool, true, false, not, ◌&&◌, ◌||◌, nat_lt, List, [], ◌∷◌, Option, Some, None}
use Rattle.std.specs.Prelude.{◌-◌, length, slice_get, if◌then◌else◌}
use Rattle.vax_core.specs.declared.op.Op.{Op}
use Rattle.vax_core.specs.declared.op.Op.TheVariants.{Tstl}
use Rattle.vax_core.specs.declared.operand.Operand.{Operand}
use Rattle.vax_core.specs.declared.code.Instr.{Instr}
use Rattle.vax_core.specs.declared.code.Code.{Code}
use Rattle.vax_core.specs.declared.code.CodeItem.{CodeItem}
use Rattle.vax_core.specs.declared.code.CodeItem.TheVariants as item_kind
use Rattle.vax_core.specs.Ops.{shape}
use Rattle.vax_core.specs.Same.{same_operand}
use Rattle.vax_machine.specs.declared.function.Action.{Action}
use Rattle.vax_machine.specs.declared.function.Action.TheVariants.{Compute}
use Rattle.vax_machine.specs.Functions.{action_of}
use Rattle.vax_passes.specs.Dropping.{Kept, put_first}
use Rattle.vax_passes.specs.Thinned.{IsThinned}
use Rattle.vax_codes.specs.Carry.{MayRead}
use Rattle.vax_codes.specs.Needless.{ends_written, last_operand, function_clears, is_plain, IsNeedless}

abbrev pub is_test : Op → Bool
is_test Tstl = true
is_test op = false

-- an instruction computes, and C is 0 behind it or isn't read behind the test
abbrev pub computes : Action → Bool → Bool
computes (Compute f) read = function_clears f || not read
computes a read = false

abbrev pub is_last : Operand → Option Operand → Bool
is_last o None = false
is_last o (Some p) = same_operand o p

-- the operand that is tested is the longword that the instruction writes
abbrev pub tests_result : List Operand → Instr → Bool → Bool
tests_result (o ∷ []) w read =
    is_plain o && (computes (action_of w.op) read && (ends_written (shape w.op).operands && is_last o (last_operand w.operands)))
tests_result os w read = false

-- the item is a test of what the one before it has computed; whether C may be read behind it is given
abbrev pub is_needless : CodeItem → Option CodeItem → Bool → Bool
is_needless (item_kind.Instr i) (Some (item_kind.Instr w)) read = is_test i.op && tests_result i.operands w read
is_needless x before read = false

-- what was kept last
abbrev pub last_item : List CodeItem → Option CodeItem
last_item kept = slice_get kept (length kept - 1)

-- from the front; whether C may be read at each place, the place, what was kept last, and how many changes were counted
abbrev pub without_tests : (ℕ → Bool) → List CodeItem → ℕ → Option CodeItem → ℕ → Kept
without_tests reads [] at before made = record { made = made; items = [] }
without_tests reads (x ∷ rest) at before made =
    if nat_lt made 18446744073709551615 && is_needless x before (reads (suc at))
    then without_tests reads rest (suc at) before (made + 1)
    else put_first x (without_tests reads rest (suc at) (Some x) made)

-- The second code is the first without as many instructions as were counted; no test is needless in it where the count isn't at its end.
pub record DropsNeedlessTests (before after : ℕ) (c d : Code) : Type 0 where
  pub thinned : IsThinned c d before after
  pub settled : after < 18446744073709551615 → (p : ℕ) → IsNeedless (MayRead d.items) d.items p → ⊥
