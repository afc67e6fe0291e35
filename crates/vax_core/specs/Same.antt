-- When two operands are the same: their mode, their register, their address and their index are.
use Rattle.std.specs.Prelude.{ℕ, Bool, true, false, ◌==◌, ◌&&◌, nat_eq, List, Option, Some, None}
use Rattle.std.specs.Cmp.Lexicographic.{pointwise}
use Rattle.vax_core.specs.declared.register.Reg.{Reg}
use Rattle.vax_core.specs.declared.operand.Base.{Base}
use Rattle.vax_core.specs.declared.operand.Base.TheVariants as bases
use Rattle.vax_core.specs.declared.operand.Operand.{Operand}
use Rattle.vax_core.specs.declared.same.Mode.{Mode}
use Rattle.vax_core.specs.declared.same.Mode.TheVariants.{Immediate, Register, RegisterDeferred, Autoincrement}
use Rattle.vax_core.specs.declared.same.Mode.TheVariants.{AutoincrementDeferred, Autodecrement, Displacement}
use Rattle.vax_core.specs.declared.same.Mode.TheVariants.{DisplacementDeferred, Absolute, Relative, RelativeDeferred}
use Rattle.vax_core.specs.Registers.{reg_number, base_register}

abbrev pub mode_number : Mode → ℕ
mode_number Immediate = 0
mode_number Register = 1
mode_number RegisterDeferred = 2
mode_number Autoincrement = 3
mode_number AutoincrementDeferred = 4
mode_number Autodecrement = 5
mode_number Displacement = 6
mode_number DisplacementDeferred = 7
mode_number Absolute = 8
mode_number Relative = 9
mode_number RelativeDeferred = 10

-- the addressing mode of a base
abbrev pub mode_of : Base → Mode
mode_of (bases.Imm a) = Immediate
mode_of (bases.Reg r) = Register
mode_of (bases.Def r) = RegisterDeferred
mode_of (bases.Inc r) = Autoincrement
mode_of (bases.IncDef r) = AutoincrementDeferred
mode_of (bases.Dec r) = Autodecrement
mode_of (bases.Disp a r) = Displacement
mode_of (bases.DispDef a r) = DisplacementDeferred
mode_of (bases.Abs n) = Absolute
mode_of (bases.Rel a) = Relative
mode_of (bases.RelDef a) = RelativeDeferred

-- the name in a base, and the number
abbrev pub name_in : Base → Option (List ℕ)
name_in (bases.Imm a) = a.name
name_in (bases.Disp a r) = a.name
name_in (bases.DispDef a r) = a.name
name_in (bases.Rel a) = a.name
name_in (bases.RelDef a) = a.name
name_in b = None

abbrev pub offset_in : Base → ℕ
offset_in (bases.Imm a) = a.offset
offset_in (bases.Disp a r) = a.offset
offset_in (bases.DispDef a r) = a.offset
offset_in (bases.Rel a) = a.offset
offset_in (bases.RelDef a) = a.offset
offset_in (bases.Abs n) = n
offset_in b = 0

abbrev pub same_name : Option (List ℕ) → Option (List ℕ) → Bool
same_name None None = true
same_name None (Some b) = false
same_name (Some a) None = false
same_name (Some a) (Some b) = pointwise nat_eq a b

abbrev pub same_register : Option Reg → Option Reg → Bool
same_register None None = true
same_register None (Some s) = false
same_register (Some r) None = false
same_register (Some r) (Some s) = reg_number r == reg_number s

abbrev pub same_base : Base → Base → Bool
same_base a b =
    (mode_number (mode_of a) == mode_number (mode_of b)) && same_register (base_register a) (base_register b)
    && same_name (name_in a) (name_in b) && (offset_in a == offset_in b)

abbrev pub same_operand : Operand → Operand → Bool
same_operand o p = same_base o.base p.base && same_register o.index p.index
