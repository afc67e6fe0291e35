-- An image is not much longer than its text: each operand has a byte of the text before it, and each line a byte at its end.
use Rattle.std.proofs.Common.{◌≡◌, ℕ, suc, ◌+◌, ◌*◌, ◌<◌, ◌≤◌, Bool, true, false, cond, List, [], ◌∷◌, ◌++◌, length, Option, Some, None, codes, arith, length-append}
use Rattle.std.specs.Prelude.{nat_lt}
use Rattle.std.specs.List.{flat_map}
use Rattle.gg_base.specs.declared.size.Size.{Size}
use Rattle.gg_base.specs.declared.size.Size.TheVariants.{Byte, Word, Long}
use Rattle.vax_core.specs.declared.register.Reg.{Reg}
use Rattle.vax_core.specs.declared.op.OperandKind.{OperandKind}
use Rattle.vax_core.specs.declared.operand.Base.{Base}
use Rattle.vax_core.specs.declared.operand.Base.TheVariants as bases
use Rattle.vax_core.specs.declared.operand.Operand.{Operand}
use Rattle.vax_core.specs.declared.code.Instr.{Instr}
use Rattle.vax_core.specs.declared.code.AreaItem.{AreaItem}
use Rattle.vax_core.specs.declared.code.CodeItem.{CodeItem}
use Rattle.vax_core.specs.declared.code.CodeItem.TheVariants as item_kind
use Rattle.vax_core.specs.declared.code.Code.{Code}
use Rattle.vax_core.specs.Ops.{shape}
use Rattle.vax_core.specs.Text.{operand_text, operands_text, tail_text, instr_text, area_text, item_text, area_line, item_line, asm_text}
use Rattle.vax_machine.specs.Functions.{action_of}
use Rattle.vax_machine.specs.Labels.{is_call}
use Rattle.vax_image_branches.proofs.Existence.{least_exists}
use Rattle.vax_image_format.specs.Opcodes.{is_branch, is_conditional}
use Rattle.vax_image_format.specs.Specifiers.{field, addr_field, imm_bytes, disp_size, disp_bytes, base_bytes, index_bytes, operand_bytes}
use Rattle.vax_image_format.specs.Instructions.{operands_bytes, before_field, plain_bytes, head_bytes, target_size, target_length, item_length}
use Rattle.vax_image_format.specs.Sections.{text_bytes, item_marks, text_marks}
use Rattle.vax_image_format.specs.Image.{label_at, pieces_of, IsShort}
use Rattle.vax_image_format.proofs.LengthLaws.{field_length, more_text}
use Rattle.vax_image.specs.Answers.{IsTooLarge}
use Rattle.cmd_run.specs.Texts.{text_limit}

-- an operand has at most six bytes

field_short : (size : Size) (n : ℕ) → length (field size n) ≤ 4
field_short Byte n = omega (arith, field_length Byte n)
field_short Word n = omega (arith, field_length Word n)
field_short Long n = omega (arith, field_length Long n)

addr_short : (size : Size) (name : Option (List ℕ)) (n : ℕ) → length (addr_field size name n) ≤ 4
addr_short size None n = field_short size n
addr_short size (Some name) n = field_short size 0

imm_short : (size : Size) (name : Option (List ℕ)) (n : ℕ) → length (imm_bytes size name n) ≤ 5
imm_short size None n = by (nat_lt n 64)
  where
    by : (b : Bool) → length (cond b (n ∷ []) (0x8f ∷ field size n)) ≤ 5
    by true = omega arith
    by false = omega (arith, field_short size n)
imm_short size (Some name) n = omega (arith, field_short size 0)

disp_short : (deferred : ℕ) (name : Option (List ℕ)) (d : ℕ) (r : Reg) → length (disp_bytes deferred name d r) ≤ 5
disp_short deferred name d r = omega (arith, addr_short (disp_size name d) name d)

base_short : (size : Size) (base : Base) → length (base_bytes size base) ≤ 5
base_short size (bases.Imm a) = imm_short size a.name a.offset
base_short size (bases.Reg r) = omega arith
base_short size (bases.Def r) = omega arith
base_short size (bases.Inc r) = omega arith
base_short size (bases.IncDef r) = omega arith
base_short size (bases.Dec r) = omega arith
base_short size (bases.Disp a r) = disp_short 0 a.name a.offset r
base_short size (bases.DispDef a r) = disp_short 1 a.name a.offset r
base_short size (bases.Abs n) = omega (arith, field_short Long n)
base_short size (bases.Rel a) = omega (arith, addr_short Long a.name a.offset)
base_short size (bases.RelDef a) = omega (arith, addr_short Long a.name a.offset)

index_short : (index : Option Reg) → length (index_bytes index) ≤ 1
index_short None = omega arith
index_short (Some x) = omega arith

operand_short : (size : Size) (o : Operand) → length (operand_bytes size o) ≤ 6
operand_short size o = omega (arith, length-append (index_bytes o.index) (base_bytes size o.base), index_short o.index, base_short size o.base)

operands_short : (kinds : List OperandKind) (os : List Operand) → length (operands_bytes kinds os) ≤ 6 * length os
operands_short [] os = omega arith
operands_short (kind ∷ kinds) [] = omega arith
operands_short (kind ∷ kinds) (o ∷ os) =
    omega (arith, length-append (operand_bytes kind.size o) (operands_bytes kinds os), operand_short kind.size o, operands_short kinds os)

-- an instruction has at most six bytes for each operand, and eight

before_short : (form : Size) (conditional : Bool) (i : Instr) → length (before_field form conditional i.op) ≤ 4
before_short Byte conditional i = omega arith
before_short Word false i = omega arith
before_short Word true i = omega arith
before_short Long false i = omega arith
before_short Long true i = omega arith

head_short : (form : Size) (i : Instr) → length (head_bytes form i) ≤ 4 + 6 * length i.operands
head_short form i = by (is_branch (action_of i.op)) (is_call (action_of i.op))
  where
    by : (a b : Bool) → length (cond a (before_field form (is_conditional (action_of i.op)) i.op) (cond b (plain_bytes i ++ 0xef ∷ []) (plain_bytes i))) ≤ 4 + 6 * length i.operands
    by true b = omega (arith, before_short form (is_conditional (action_of i.op)) i)
    by false true = omega (arith, length-append (plain_bytes i) (0xef ∷ []), operands_short (shape i.op).operands i.operands)
    by false false = omega (arith, operands_short (shape i.op).operands i.operands)

target_short : (form : Size) (i : Instr) (target : Option (List ℕ)) → target_length form i target ≤ 4
target_short form i None = omega arith
target_short form i (Some label) = omega (arith, field_length (target_size form i) 0, field_short (target_size form i) 0)

-- a line has a byte for each operand, and two

operands_apart : (os : List Operand) (target : Option (List ℕ)) → length os ≤ 1 + length (operands_text os target)
operands_apart [] target = omega arith
operands_apart (o ∷ []) target = omega arith
operands_apart (o ∷ (p ∷ os)) target =
    omega (arith, length-append (operand_text o) (codes "," ++ operands_text (p ∷ os) target), operands_apart (p ∷ os) target)

tail_long : (os : List Operand) (target : Option (List ℕ)) → length os ≤ length (tail_text os target)
tail_long [] target = omega arith
tail_long (o ∷ os) target = omega (arith, operands_apart (o ∷ os) target)

instr_long : (i : Instr) → 1 + length i.operands ≤ length (instr_text i)
instr_long i = omega (arith, length-append (shape i.op).mnemonic (tail_text i.operands i.target), tail_long i.operands i.target)

line_long : (item : CodeItem) → length (item_line item) ≡ length (item_text item) + 1
line_long item = omega (arith, length-append (item_text item) (codes "\n"))

area_line_long : (item : AreaItem) → length (area_line item) ≡ length (area_text item) + 1
area_line_long item = omega (arith, length-append (area_text item) (codes "\n"))

item_short : (form : Size) (item : CodeItem) → item_length form item ≤ 8 * length (item_line item)
item_short form (item_kind.Label name) = omega arith
item_short form (item_kind.Globl name) = omega arith
item_short form (item_kind.Mask mask) = omega (arith, line_long (item_kind.Mask mask))
item_short form (item_kind.Instr i) = omega (arith, line_long (item_kind.Instr i), instr_long i, head_short form i, target_short form i i.target)

marks_few : (at : ℕ) (item : CodeItem) → length (item_marks at item) ≤ length (item_line item)
marks_few at (item_kind.Label name) = omega (arith, line_long (item_kind.Label name))
marks_few at (item_kind.Globl name) = omega (arith, line_long (item_kind.Globl name))
marks_few at (item_kind.Mask mask) = omega (arith, line_long (item_kind.Mask mask))
marks_few at (item_kind.Instr i) = omega arith

-- so are all of a code's

section_short : (labels : List ℕ → Option ℕ) (at : ℕ) (items : List CodeItem) (forms : List Size) → length (text_bytes labels at items forms) ≤ 8 * length (flat_map item_line items)
section_short labels at [] forms = omega arith
section_short labels at (item ∷ items) [] = omega arith
section_short labels at (item ∷ items) (form ∷ forms) =
    omega (
      arith,
      more_text labels at item items form forms,
      item_short form item,
      length-append (item_line item) (flat_map item_line items),
      section_short labels (at + item_length form item) items forms,
    )

all_marks_few : (at : ℕ) (items : List CodeItem) (forms : List Size) → length (text_marks at items forms) ≤ length (flat_map item_line items)
all_marks_few at [] forms = omega arith
all_marks_few at (item ∷ items) [] = omega arith
all_marks_few at (item ∷ items) (form ∷ forms) =
    omega (
      arith,
      length-append (item_marks at item) (text_marks (at + item_length form item) items forms),
      marks_few at item,
      length-append (item_line item) (flat_map item_line items),
      all_marks_few (at + item_length form item) items forms,
    )

area_few : (area : List AreaItem) → length area ≤ length (flat_map area_line area)
area_few [] = omega arith
area_few (item ∷ area) = omega (arith, length-append (area_line item) (flat_map area_line area), area_line_long item, area_few area)

text_long : (c : Code) → length (flat_map area_line c.area) + length (flat_map item_line c.items) ≤ length (asm_text c)
text_long c =
    omega (arith, length-append (flat_map area_line c.area) (codes "\t.text\n" ++ flat_map item_line c.items))

is_short : (c : Code) (forms : List Size) → length (asm_text c) ≤ text_limit → IsShort c forms
is_short c forms within = record {
  text = omega (arith, within, text_long c, section_short (label_at c.items forms) 0 c.items forms);
  marks = omega (arith, within, text_long c, all_marks_few 0 c.items forms);
  area = omega (arith, within, text_long c, area_few c.area);
}

-- a code whose text is within its limit is not too large for an image
pub not_too_large : (c : Code) → length (asm_text c) ≤ text_limit → IsTooLarge c → ⊥
not_too_large c within large =
    let least = least_exists (pieces_of c.items) in
    large least.0 least.1 (is_short c least.0 within)
