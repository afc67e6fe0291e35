-- The assembly text of a code, byte for byte. The data area has the lines of a VAX text.
use Rattle.std.specs.Prelude.{ℕ, List, [], ◌∷◌, ◌++◌, Option, Some, None, codes}
use Rattle.std.specs.List.{flat_map}
use Rattle.std.specs.Fmt.{decimal}
use Rattle.gg_base.specs.Numbers.{signed_text}
use Rattle.vax_core.specs.Text.{addr_text, area_line}
use Rattle.l32_core.specs.declared.op.Part.{Part}
use Rattle.l32_core.specs.declared.op.Part.TheVariants as parts
use Rattle.l32_core.specs.declared.operand.Base32.{Base32}
use Rattle.l32_core.specs.declared.operand.Base32.TheVariants as bases
use Rattle.l32_core.specs.declared.operand.Operand32.{Operand32}
use Rattle.l32_core.specs.declared.operand.Operand32.TheVariants as operands
use Rattle.l32_core.specs.declared.code.Instr32.{Instr32}
use Rattle.l32_core.specs.declared.code.Item32.{Item32}
use Rattle.l32_core.specs.declared.code.Item32.TheVariants as item_kind
use Rattle.l32_core.specs.declared.code.Code32.{Code32}
use Rattle.l32_core.specs.Ops.{shape}

-- `aN`
abbrev pub reg_text : ℕ → List ℕ
reg_text n = codes "a" ++ decimal n

abbrev pub base_text : Base32 → List ℕ
base_text (bases.A n) = reg_text n
base_text bases.Fp = codes "fp"
base_text bases.Sp = codes "sp"

-- `n(r)`
abbrev pub at_text : ℕ → Base32 → List ℕ
at_text n b = signed_text n ++ (codes "(" ++ (base_text b ++ codes ")"))

abbrev pub operand_text : Operand32 → List ℕ
operand_text (operands.Num n) = codes "$" ++ signed_text n
operand_text (operands.Reg n) = reg_text n
operand_text (operands.At n b) = at_text n b
operand_text (operands.Deferred n b) = codes "@" ++ at_text n b
operand_text (operands.Addr a) = addr_text a

-- the operands and the label in the places that the table gives them, the first behind this mark, the others behind commas
abbrev pub parts_text : List ℕ → List Part → List Operand32 → Option (List ℕ) → List ℕ
parts_text mark [] os target = []
parts_text mark (parts.Label ∷ ps) os None = []
parts_text mark (parts.Label ∷ ps) os (Some name) = mark ++ (name ++ parts_text (codes ",") ps os None)
parts_text mark (parts.Operand role ∷ ps) [] target = []
parts_text mark (parts.Operand role ∷ ps) (o ∷ os) target = mark ++ (operand_text o ++ parts_text (codes ",") ps os target)

abbrev pub instr_text : Instr32 → List ℕ
instr_text i = codes "\t" ++ ((shape i.op).mnemonic ++ parts_text (codes "\t") (shape i.op).parts i.operands i.target)

-- a line of the code, without its line feed
abbrev pub item_text : Item32 → List ℕ
item_text (item_kind.Label name) = name ++ codes ":"
item_text (item_kind.Instr i) = instr_text i

abbrev pub item_line : Item32 → List ℕ
item_line item = item_text item ++ codes "\n"

-- the text: the data area's lines, then the code's
abbrev pub asm_text : Code32 → List ℕ
asm_text c = codes "\t.data\n" ++ (flat_map area_line c.area ++ (codes "\t.text\n" ++ flat_map item_line c.items))
