-- What an instruction writes of its operands, and whether it has another size than the operand.
-- This is how the code computes it; that instructions do so is the law vax_is_lawful of vax_target_laws.
use Rattle.std.specs.Prelude.{ℕ, Bool, true, false, not, Result, Ok, Err, if◌then◌else◌}
use Rattle.gg_base.specs.declared.size.Size.{Size}
use Rattle.gg_base.specs.declared.size.Size.TheVariants.{Long}
use Rattle.sel_target.specs.term_core.specs.Shape.{Shape}
use Rattle.sel_target.specs.sel_terms.specs.Same.{same_size}
use Rattle.sel_target.specs.declared.fault.TemplateKind.{TemplateKind}
use Rattle.sel_target.specs.declared.fault.TemplateKind.TheVariants.{NotInstr}
use Rattle.vax_templates.specs.declared.setting.Own.{Own}
use Rattle.vax_templates.specs.declared.setting.Own.TheVariants as own
use Rattle.vax_templates.specs.declared.setting.Opening.{Opening}
use Rattle.vax_templates.specs.declared.setting.Opening.TheVariants as opening
use Rattle.vax_templates.specs.declared.setting.Setting.{Setting}
use Rattle.vax_templates.specs.Standing.{Where, OwnRegister, RegisterZero, Place, Local, Saved, At}

-- what is written: `%0`, the slot of a spill, the home of a symbol, memory at an address, register 0, or the local of
-- the last call's result
pub data Target : Type 0 where
  ToOwn : Target
  ToSlot : (size : Size) → Target
  ToHome : (size : Size) (i : ℕ) → Target
  ToMemory : (size : Size) (address : Shape) → Target
  ToZero : Target
  ToSaved : (i : ℕ) → Target

abbrev pub is_long : Size → Bool
is_long Long = true
is_long z = false

-- a register is written as a longword; a slot has its size
abbrev pub own_target : Own → Size → Result (Target × Bool) TemplateKind
own_target own.Nothing size = Err NotInstr
own_target own.Register size = if is_long size then Ok (ToOwn, false) else Err NotInstr
own_target (own.Slot z) size = Ok (ToSlot size, not (same_size z size))

-- a line that saves writes nothing but the slot
abbrev pub memory_target : Own → Shape → Size → Result (Target × Bool) TemplateKind
memory_target (own.Slot z) a size = Err NotInstr
memory_target o a size = Ok (ToMemory size a, false)

abbrev pub zero_target : Opening → Result (Target × Bool) TemplateKind
zero_target opening.Return = Ok (ToZero, false)
zero_target o = Err NotInstr

abbrev pub statement_target : Setting → Where → Size → Result (Target × Bool) TemplateKind
statement_target s (Place z i) size = Ok (ToHome size i, not (same_size z size))
statement_target s (Local i) size = Ok (ToHome size i, not (is_long size))
statement_target s (Saved i) size = Ok (ToSaved i, false)
statement_target s (At a p) size = memory_target s.own a size
statement_target s RegisterZero size = zero_target s.opening
statement_target s w size = Err NotInstr

-- what is written, and whether it has another size; only a statement writes something else than `%0`
unfoldable pub targeted : Setting → Where → Size → Result (Target × Bool) TemplateKind
targeted s OwnRegister size = own_target s.own size
targeted s w size = if s.is_statement then statement_target s w size else Err NotInstr
