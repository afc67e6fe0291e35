-- The codes that an assembly text can be written of.
use Rattle.std.specs.Prelude.{ℕ, ◌^◌, Bool, true, false, not, ◌==◌, ◌&&◌, ◌||◌, nat_lt, nat_le, List, [], ◌∷◌, length, Option, Some, None}
use Rattle.std.specs.List.{list_all}
use Rattle.gg_base.specs.declared.limits.TheConstants.{AREA_LIMIT}
use Rattle.gg_base.specs.Names.{is_name_part}
use Rattle.vax_core.specs.declared.register.Reg.{Reg}
use Rattle.vax_core.specs.declared.operand.Addr.{Addr}
use Rattle.vax_core.specs.declared.operand.Base.{Base}
use Rattle.vax_core.specs.declared.operand.Base.TheVariants as bases
use Rattle.vax_core.specs.declared.operand.Operand.{Operand}
use Rattle.vax_core.specs.declared.op.Access.{Access}
use Rattle.vax_core.specs.declared.op.Access.TheVariants as accesses
use Rattle.vax_core.specs.declared.op.OperandKind.{OperandKind}
use Rattle.vax_core.specs.declared.code.Instr.{Instr}
use Rattle.vax_core.specs.declared.code.AreaItem.{AreaItem}
use Rattle.vax_core.specs.declared.code.AreaItem.TheVariants as areas
use Rattle.vax_core.specs.declared.code.CodeItem.{CodeItem}
use Rattle.vax_core.specs.declared.code.CodeItem.TheVariants as item_kind
use Rattle.vax_core.specs.declared.code.Code.{Code}
use Rattle.vax_core.specs.Registers.{reg_number}
use Rattle.vax_core.specs.Ops.{shape}

-- `_`, `L`, `S` or `T`
abbrev pub is_name_start : ℕ → Bool
is_name_start c = (c == 95) || ((c == 76) || ((c == 83) || (c == 84)))

-- a name: at most 64 such characters
abbrev pub is_name : List ℕ → Bool
is_name [] = false
is_name (c ∷ cs) = is_name_start c && (nat_le (length cs) 63 && list_all is_name_part cs)

-- 32 bits
abbrev pub is_long : ℕ → Bool
is_long n = nat_lt n (2 ^ 32)

-- a name with an offset of 32 bits, which has a sign of its own and so is not -2 ^ 31
abbrev pub is_named_addr : Option (List ℕ) → ℕ → Bool
is_named_addr None offset = false
is_named_addr (Some name) offset = is_name name && (is_long offset && not (offset == 2 ^ 31))

-- a number, or a name with an offset
abbrev pub is_addr_of : Option (List ℕ) → ℕ → Bool
is_addr_of None offset = is_long offset
is_addr_of (Some name) offset = is_named_addr (Some name) offset

abbrev pub is_addr : Addr → Bool
is_addr a = is_addr_of a.name a.offset

-- what the parts of a base may be
abbrev pub is_base : Base → Bool
is_base (bases.Imm a) = is_addr a
is_base (bases.Disp a r) = is_addr a
is_base (bases.DispDef a r) = is_addr a
is_base (bases.Rel a) = is_named_addr a.name a.offset
is_base (bases.RelDef a) = is_named_addr a.name a.offset
is_base (bases.Abs n) = is_long n
is_base b = true

-- the number of arguments of a call, from 0 to 255
abbrev pub is_count_of : Option (List ℕ) → ℕ → Bool
is_count_of None n = nat_le n 255
is_count_of (Some name) n = false

-- which bases may be read, written, have an address, or be a number of arguments
abbrev pub is_memory : Base → Bool
is_memory (bases.Imm a) = false
is_memory (bases.Reg r) = false
is_memory b = true

abbrev pub is_place : Base → Bool
is_place (bases.Imm a) = false
is_place b = true

abbrev pub is_count : Base → Bool
is_count (bases.Imm a) = is_count_of a.name a.offset
is_count b = false

abbrev pub allows : Access → Base → Bool
allows accesses.Read b = true
allows accesses.Modify b = is_place b
allows accesses.Write b = is_place b
allows accesses.Address b = is_memory b
allows accesses.Count b = is_count b

-- an index stands behind memory, and is another register than one that the base steps
abbrev pub may_index : Base → Reg → Bool
may_index (bases.Imm a) x = false
may_index (bases.Reg r) x = false
may_index (bases.Inc r) x = not (reg_number r == reg_number x)
may_index (bases.IncDef r) x = not (reg_number r == reg_number x)
may_index (bases.Dec r) x = not (reg_number r == reg_number x)
may_index b x = true

abbrev pub is_index : Base → Option Reg → Bool
is_index b None = true
is_index b (Some x) = may_index b x

abbrev pub is_operand : OperandKind → Operand → Bool
is_operand kind o = allows kind.access o.base && (is_base o.base && is_index o.base o.index)

-- one operand for each kind
abbrev pub are_operands : List OperandKind → List Operand → Bool
are_operands [] [] = true
are_operands [] (o ∷ os) = false
are_operands (kind ∷ kinds) [] = false
are_operands (kind ∷ kinds) (o ∷ os) = is_operand kind o && are_operands kinds os

-- a label exactly where the table has one
abbrev pub is_target : Bool → Option (List ℕ) → Bool
is_target true (Some name) = is_name name
is_target true None = false
is_target false (Some name) = false
is_target false None = true

abbrev pub is_instr : Instr → Bool
is_instr i = are_operands (shape i.op).operands i.operands && is_target (shape i.op).target i.target

abbrev pub is_area_item : AreaItem → Bool
is_area_item (areas.Label name) = is_name name
is_area_item (areas.Globl name) = is_name name
is_area_item (areas.Align k) = nat_le k 2
is_area_item (areas.Byte n) = nat_lt n (2 ^ 8)
is_area_item (areas.Word n) = nat_lt n (2 ^ 16)
is_area_item (areas.Long a) = is_addr a
is_area_item (areas.Space n) = nat_le 1 n && nat_le n AREA_LIMIT

abbrev pub is_code_item : CodeItem → Bool
is_code_item (item_kind.Label name) = is_name name
is_code_item (item_kind.Globl name) = is_name name
is_code_item (item_kind.Mask mask) = nat_le mask 4095
is_code_item (item_kind.Instr i) = is_instr i

abbrev pub is_code : Code → Bool
is_code c = list_all is_area_item c.area && list_all is_code_item c.items
