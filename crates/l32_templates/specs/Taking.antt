-- What an instruction takes of its operands, on terms: by what it does with each, its role.
use Rattle.std.specs.Prelude.{Bool, true, false, not, ◌||◌, List, [], ◌∷◌, ◌++◌, Option, Some, None, Result, Ok, Err, if◌then◌else◌}
use Rattle.vax_templates.specs.gg_base.specs.declared.size.Size.{Size}
use Rattle.vax_templates.specs.gg_base.specs.declared.size.Size.TheVariants.{Long}
use Rattle.vax_templates.specs.term_core.specs.Shape.{Shape, Symbol}
use Rattle.vax_templates.specs.sel_target.specs.sel_terms.specs.Same.{same_size}
use Rattle.vax_templates.specs.sel_target.specs.declared.fault.TemplateKind.{TemplateKind}
use Rattle.vax_templates.specs.sel_target.specs.declared.fault.TemplateKind.TheVariants.{NotInstr}
use Rattle.l32_core.specs.declared.op.Role.{Role}
use Rattle.l32_core.specs.declared.op.Role.TheVariants as roles
use Rattle.l32_core.specs.declared.op.Part.{Part}
use Rattle.l32_core.specs.declared.op.Part.TheVariants as parts
use Rattle.vax_templates.specs.declared.setting.Hole.{Hole}
use Rattle.vax_templates.specs.declared.setting.Own.{Own}
use Rattle.vax_templates.specs.declared.setting.Own.TheVariants as own
use Rattle.vax_templates.specs.declared.setting.Setting.{Setting}
use Rattle.vax_templates.specs.Standing.{Where, Immediate, Register, OwnRegister, RegisterZero, Value, Place, Local, SavedPlace, Saved, At}
use Rattle.vax_templates.specs.Standing.{◌>>=◌}
use Rattle.vax_templates.specs.Targets.{Target, ToOwn, ToSlot, ToHome, ToSaved, is_long, memory_target, zero_target}
use Rattle.vax_templates.specs.Taking.{Taken, taken_term, written, Arguments, no_arguments, pointer_read, fetched}
use Rattle.l32_templates.specs.declared.form.Form.{Form}
use Rattle.l32_templates.specs.Standing.{form_where}

-- a number, which alone is one
abbrev pub numbered : Where → Result Taken TemplateKind
numbered (Immediate t) = Ok (taken_term t)
numbered w = Err NotInstr

-- a register
abbrev pub registered : Setting → Option Shape → Where → Result Taken TemplateKind
registered s zero (Register t) = fetched s zero (Register t) Long
registered s zero OwnRegister = fetched s zero OwnRegister Long
registered s zero RegisterZero = fetched s zero RegisterZero Long
registered s zero w = Err NotInstr

-- a register or memory, read at a size; a number is neither
abbrev pub sourced : Setting → Option Shape → Where → Size → Result Taken TemplateKind
sourced s zero (Immediate t) size = Err NotInstr
sourced s zero w size = fetched s zero w size

-- the address that is taken, which has no size; of a symbol's place it is taken only where it is saved
abbrev pub addressed : Where → Result Taken TemplateKind
addressed (At a p) = Ok (record { term = a; reads = pointer_read p; target = None; missized = false })
addressed (SavedPlace z i) = Ok (taken_term (Symbol i))
addressed w = Err NotInstr

abbrev pub own_register : Own → Result (Target × Bool) TemplateKind
own_register own.Register = Ok (ToOwn, false)
own_register o = Err NotInstr

-- the register that is written: `%0`, or `a0` in a rule that returns
abbrev pub register_target : Setting → Where → Result (Target × Bool) TemplateKind
register_target s OwnRegister = own_register s.own
register_target s RegisterZero = if s.is_statement then zero_target s.opening else Err NotInstr
register_target s w = Err NotInstr

-- the slot of a spill, which has its size
abbrev pub slot_target : Own → Size → Result (Target × Bool) TemplateKind
slot_target (own.Slot z) size = Ok (ToSlot size, not (same_size z size))
slot_target o size = Err NotInstr

abbrev pub statement_store : Own → Where → Size → Result (Target × Bool) TemplateKind
statement_store o OwnRegister size = slot_target o size
statement_store o (Place z i) size = Ok (ToHome size i, not (same_size z size))
statement_store o (Local i) size = Ok (ToHome size i, not (is_long size))
statement_store o (Saved i) size = Ok (ToSaved i, false)
statement_store o (At a p) size = memory_target o a size
statement_store o w size = Err NotInstr

-- the memory that is written, and whether it has another size; only a statement writes memory
abbrev pub store_target : Setting → Where → Size → Result (Target × Bool) TemplateKind
store_target s w size = if s.is_statement then statement_store s.own w size else Err NotInstr

-- what an instruction takes of an operand with this role
unfoldable pub taken : Setting → Option Shape → Role → Where → Result Taken TemplateKind
taken s zero roles.Number w = numbered w
taken s zero roles.Words w = Err NotInstr
taken s zero roles.Count w = Err NotInstr
taken s zero roles.Destination w = register_target s w >>= written
taken s zero roles.Register w = registered s zero w
taken s zero (roles.Source size) w = sourced s zero w size
taken s zero (roles.Store size) w = store_target s w size >>= written
taken s zero roles.Address w = addressed w

unfoldable pub evaluated : Setting → List Hole → Option Shape → Role → Form → Result Taken TemplateKind
evaluated s holes zero role f = form_where s holes zero f >>= taken s zero role

-- an operand that is written gives no argument
abbrev pub with_target : Target → Taken → Arguments → Result Arguments TemplateKind
with_target to t x = Ok (record x { target = Some to; missized = t.missized || x.missized })

-- one that is read is the first, and those behind it come later
abbrev pub in_front : Taken → Arguments → Result Arguments TemplateKind
in_front t x =
    Ok (record x { first = t.term; second = x.first; reads = t.reads ++ x.reads; missized = t.missized || x.missized })

abbrev pub in_front_of : Taken → Arguments → Option Target → Result Arguments TemplateKind
in_front_of t x None = in_front t x
in_front_of t x (Some to) = with_target to t x

-- the arguments with an operand in front of them
abbrev pub put_in_front : Taken → Arguments → Result Arguments TemplateKind
put_in_front t x = in_front_of t x t.target

-- all operands; a label gives nothing here
abbrev pub all_evaluated : Setting → List Hole → Option Shape → List Part → List Form → Result Arguments TemplateKind
all_evaluated s holes zero [] fs = Ok no_arguments
all_evaluated s holes zero (parts.Label ∷ ps) fs = all_evaluated s holes zero ps fs
all_evaluated s holes zero (parts.Operand role ∷ ps) [] = Err NotInstr
all_evaluated s holes zero (parts.Operand role ∷ ps) (f ∷ fs) =
    evaluated s holes zero role f >>= λ (t : Taken). all_evaluated s holes zero ps fs >>= put_in_front t
