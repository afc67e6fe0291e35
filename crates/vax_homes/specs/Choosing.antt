-- Which locals of a function may live in a register, and which they get.
use Rattle.std.specs.Prelude.{ℕ, ◌+◌, ◌*◌, ◌%◌, ◌^◌, ◌==◌, ◌&&◌, not, Bool, true, false, List, [], ◌∷◌, map, Option, Some, None}
use Rattle.std.specs.Prelude.{is_none, if◌then◌else◌}
use Rattle.std.specs.List.{filter, list_all, zip}
use Rattle.gg_base.specs.declared.size.Size.{Size}
use Rattle.gg_base.specs.declared.size.Size.TheVariants.{Byte, Word, Long}
use Rattle.vax_core.specs.declared.register.Reg.{Reg}
use Rattle.vax_core.specs.declared.register.Reg.TheVariants.{R6, R7, R8, R9, R10, R11}
use Rattle.vax_core.specs.declared.operand.Addr.{Addr}
use Rattle.vax_core.specs.declared.operand.Base.{Base}
use Rattle.vax_core.specs.declared.operand.Base.TheVariants as bases
use Rattle.vax_core.specs.declared.operand.Operand.{Operand}
use Rattle.vax_core.specs.declared.op.Access.{Access}
use Rattle.vax_core.specs.declared.op.Access.TheVariants as accesses
use Rattle.vax_core.specs.declared.op.OperandKind.{OperandKind}
use Rattle.vax_core.specs.declared.code.CodeItem.{CodeItem}
use Rattle.vax_core.specs.declared.code.CodeItem.TheVariants as item_kind
use Rattle.vax_core.specs.Ops.{shape}
use Rattle.vax_core.specs.Registers.{reg_number, base_register}
use Rattle.vax_frames.specs.Frames.{body_names}
use Rattle.vax_homes.specs.declared.choose.Home.{Home}

-- ---- which locals may live in a register

-- `d(fp)` with d the displacement of local k, -4(k+1) on 32 bits
abbrev pub is_home_at : ℕ → Addr → Bool
is_home_at k a = is_none a.name && (a.offset + 4 * (k + 1) == 2 ^ 32)

abbrev pub is_word_at : Addr → Bool
is_word_at a = is_none a.name && (a.offset % 4 == 0)

abbrev pub is_long : Size → Bool
is_long Byte = false
is_long Word = false
is_long Long = true

-- the place itself is read or written, and not its address taken
abbrev pub is_value : Access → Bool
is_value accesses.Address = false
is_value a = true

abbrev pub is_fp : Reg → Bool
is_fp r = reg_number r == 13

abbrev pub has_fp : Option Reg → Bool
has_fp None = false
has_fp (Some r) = is_fp r

-- the word of local k is used as a longword
abbrev pub allows_home : ℕ → Addr → OperandKind → Bool
allows_home k a kind = if is_home_at k a then is_long kind.size && is_value kind.access else true

-- An operand with fp as base is an unnamed `d(fp)` without index or an unnamed `*d(fp)`, d a multiple of 4; and `d(fp)` of local k is used
-- as a longword, and not by its address.
abbrev pub spares_base : ℕ → OperandKind → Bool → Base → Bool
spares_base k kind plain (bases.Disp a r) = if is_fp r then plain && (is_word_at a && allows_home k a kind) else true
spares_base k kind plain (bases.DispDef a r) = if is_fp r then is_word_at a else true
spares_base k kind plain b = not (has_fp (base_register b))

abbrev pub spares : ℕ → OperandKind → Operand → Bool
spares k kind o = spares_base k kind (is_none o.index) o.base

abbrev pub pair_spares : ℕ → OperandKind × Operand → Bool
pair_spares k p = spares k p.0 p.1

abbrev pub all_spare : ℕ → List OperandKind → List Operand → Bool
all_spare k kinds os = list_all (pair_spares k) (zip kinds os)

abbrev pub item_spares : ℕ → CodeItem → Bool
item_spares k (item_kind.Label name) = true
item_spares k (item_kind.Globl name) = true
item_spares k (item_kind.Mask mask) = true
item_spares k (item_kind.Instr i) = all_spare k (shape i.op).operands i.operands

-- local k may live in a register
abbrev pub is_homeable : List CodeItem → ℕ → Bool
is_homeable body k = list_all (item_spares k) body

-- ---- which registers they get

abbrev pub home_registers : List Reg
home_registers = R6 ∷ (R7 ∷ (R8 ∷ (R9 ∷ (R10 ∷ (R11 ∷ [])))))

-- the body doesn't name it
abbrev pub is_free : List CodeItem → Reg → Bool
is_free body r = not (body_names body (reg_number r))

abbrev pub home_of : ℕ × Reg → Home
home_of p = record { local = p.0; register = p.1 }

abbrev pub paired : List ℕ → List Reg → List Home
paired ks rs = map home_of (zip ks rs)

-- The wanted locals that may live in a register, in order, get those of r6 to r11 that the body doesn't name, in order, while both last.
abbrev pub homes_of : List ℕ → List CodeItem → List Home
homes_of wanted body = paired (filter (is_homeable body) wanted) (filter (is_free body) home_registers)
