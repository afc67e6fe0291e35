-- The assembly text of a code, byte for byte.
use Rattle.std.specs.Prelude.{ℕ, suc, zero, ◌-◌, ◌^◌, List, [], ◌∷◌, ◌++◌, Option, Some, None, nat_lt, if◌then◌else◌, codes}
use Rattle.std.specs.List.{flat_map}
use Rattle.std.specs.Fmt.{decimal}
use Rattle.gg_base.specs.Numbers.{signed_text}
use Rattle.vax_core.specs.declared.register.Reg.{Reg}
use Rattle.vax_core.specs.declared.operand.Addr.{Addr}
use Rattle.vax_core.specs.declared.operand.Base.{Base}
use Rattle.vax_core.specs.declared.operand.Base.TheVariants as bases
use Rattle.vax_core.specs.declared.operand.Operand.{Operand}
use Rattle.vax_core.specs.declared.code.Instr.{Instr}
use Rattle.vax_core.specs.declared.code.AreaItem.{AreaItem}
use Rattle.vax_core.specs.declared.code.AreaItem.TheVariants as areas
use Rattle.vax_core.specs.declared.code.CodeItem.{CodeItem}
use Rattle.vax_core.specs.declared.code.CodeItem.TheVariants as item_kind
use Rattle.vax_core.specs.declared.code.Code.{Code}
use Rattle.vax_core.specs.Registers.{reg_text}
use Rattle.vax_core.specs.Ops.{shape}

-- an offset behind a name, with its sign; no offset is not written
abbrev pub offset_text : ℕ → List ℕ
offset_text zero = []
offset_text (suc n) = if nat_lt (suc n) (2 ^ 31) then codes "+" ++ decimal (suc n) else codes "-" ++ decimal (2 ^ 32 - suc n)

-- a name with an offset, or a number alone
abbrev pub addr_text_of : Option (List ℕ) → ℕ → List ℕ
addr_text_of None offset = signed_text offset
addr_text_of (Some name) offset = name ++ offset_text offset

abbrev pub addr_text : Addr → List ℕ
addr_text a = addr_text_of a.name a.offset

-- `(r)`
abbrev pub at_text : Reg → List ℕ
at_text r = codes "(" ++ (reg_text r ++ codes ")")

abbrev pub base_text : Base → List ℕ
base_text (bases.Imm a) = codes "$" ++ addr_text a
base_text (bases.Reg r) = reg_text r
base_text (bases.Def r) = at_text r
base_text (bases.Inc r) = at_text r ++ codes "+"
base_text (bases.IncDef r) = codes "*" ++ (at_text r ++ codes "+")
base_text (bases.Dec r) = codes "-" ++ at_text r
base_text (bases.Disp a r) = addr_text a ++ at_text r
base_text (bases.DispDef a r) = codes "*" ++ (addr_text a ++ at_text r)
base_text (bases.Abs n) = codes "*$" ++ signed_text n
base_text (bases.Rel a) = addr_text a
base_text (bases.RelDef a) = codes "*" ++ addr_text a

abbrev pub index_text : Option Reg → List ℕ
index_text None = []
index_text (Some r) = codes "[" ++ (reg_text r ++ codes "]")

abbrev pub operand_text : Operand → List ℕ
operand_text o = base_text o.base ++ index_text o.index

-- the operands and the label, joined by commas
abbrev pub operands_text : List Operand → Option (List ℕ) → List ℕ
operands_text [] None = []
operands_text [] (Some label) = label
operands_text (o ∷ []) None = operand_text o
operands_text (o ∷ os) target = operand_text o ++ (codes "," ++ operands_text os target)

-- a TAB before the operands and the label, where there are any
abbrev pub tail_text : List Operand → Option (List ℕ) → List ℕ
tail_text [] None = []
tail_text os target = codes "\t" ++ operands_text os target

abbrev pub instr_text : Instr → List ℕ
instr_text i = codes "\t" ++ ((shape i.op).mnemonic ++ tail_text i.operands i.target)

-- a line of the data area, without its line feed
abbrev pub area_text : AreaItem → List ℕ
area_text (areas.Label name) = name ++ codes ":"
area_text (areas.Globl name) = codes "\t.globl\t" ++ name
area_text (areas.Align k) = codes "\t.align\t" ++ decimal k
area_text (areas.Byte n) = codes "\t.byte\t" ++ decimal n
area_text (areas.Word n) = codes "\t.word\t" ++ decimal n
area_text (areas.Long a) = codes "\t.long\t" ++ addr_text a
area_text (areas.Space n) = codes "\t.space\t" ++ decimal n

-- a line of the code, without its line feed
abbrev pub item_text : CodeItem → List ℕ
item_text (item_kind.Label name) = name ++ codes ":"
item_text (item_kind.Globl name) = codes "\t.globl\t" ++ name
item_text (item_kind.Mask mask) = codes "\t.word\t" ++ decimal mask
item_text (item_kind.Instr i) = instr_text i

abbrev pub area_line : AreaItem → List ℕ
area_line item = area_text item ++ codes "\n"

abbrev pub item_line : CodeItem → List ℕ
item_line item = item_text item ++ codes "\n"

-- the text: the data area's lines, then the code's
abbrev pub asm_text : Code → List ℕ
asm_text c = codes "\t.data\n" ++ (flat_map area_line c.area ++ (codes "\t.text\n" ++ flat_map item_line c.items))
