-- The bytes of an item of the code in a text section, its refs and its mark.
use Rattle.std.specs.Prelude.{ℕ, ◌+◌, Bool, true, false, List, [], ◌∷◌, ◌++◌, length, Option, Some, None, if◌then◌else◌}
use Rattle.gg_base.specs.declared.size.Size.{Size}
use Rattle.gg_base.specs.declared.size.Size.TheVariants.{Byte, Word, Long}
use Rattle.gg_base.specs.Sizes.{bytes_of}
use Rattle.gg_base.specs.Arithmetic.{sub32}
use Rattle.vax_core.specs.declared.op.Op.{Op}
use Rattle.vax_core.specs.declared.op.OperandKind.{OperandKind}
use Rattle.vax_core.specs.declared.operand.Operand.{Operand}
use Rattle.vax_core.specs.declared.code.Instr.{Instr}
use Rattle.vax_core.specs.declared.code.CodeItem.{CodeItem}
use Rattle.vax_core.specs.declared.code.CodeItem.TheVariants as item_kind
use Rattle.vax_core.specs.Ops.{shape}
use Rattle.vax_machine.specs.Functions.{action_of}
use Rattle.vax_machine.specs.Labels.{is_call}
use Rattle.vax_image_format.specs.declared.field.Ref.{Ref}
use Rattle.vax_image_format.specs.Opcodes.{opcode, opposite, is_branch, is_conditional}
use Rattle.vax_image_format.specs.Specifiers.{field, ref, operand_bytes, operand_refs}

-- the operands one after the other, each at its size
abbrev pub operands_bytes : List OperandKind → List Operand → List ℕ
operands_bytes [] os = []
operands_bytes (kind ∷ kinds) [] = []
operands_bytes (kind ∷ kinds) (o ∷ os) = operand_bytes kind.size o ++ operands_bytes kinds os

abbrev pub operands_refs : ℕ → List OperandKind → List Operand → List Ref
operands_refs at [] os = []
operands_refs at (kind ∷ kinds) [] = []
operands_refs at (kind ∷ kinds) (o ∷ os) = operand_refs at kind.size o ++ operands_refs (at + length (operand_bytes kind.size o)) kinds os

-- what stands before a branch's field: its opcode; or `brw` or `jmp`, behind a branch round it where it goes on a condition
abbrev pub before_field : Size → Bool → Op → List ℕ
before_field Byte conditional op = opcode op ∷ []
before_field Word false op = 0x31 ∷ []
before_field Word true op = opposite op ∷ (0x03 ∷ (0x31 ∷ []))
before_field Long false op = 0x17 ∷ (0xef ∷ [])
before_field Long true op = opposite op ∷ (0x06 ∷ (0x17 ∷ (0xef ∷ [])))

-- the way from the end of a field to a label; 0 to a service, which has no place
abbrev pub way : ℕ → Option ℕ → ℕ
way end None = 0
way end (Some to) = sub32 to end

-- the ref of a target, in a field behind some bytes
abbrev pub target_ref : ℕ → Option (List ℕ) → List Ref
target_ref place None = []
target_ref place (Some label) = ref place (Some label) 0

-- an instruction that is no branch, before the target of a call
abbrev pub plain_bytes : Instr → List ℕ
plain_bytes i = opcode i.op ∷ operands_bytes (shape i.op).operands i.operands

-- what stands before the field of an instruction's target
abbrev pub head_bytes : Size → Instr → List ℕ
head_bytes form i =
    if is_branch (action_of i.op) then before_field form (is_conditional (action_of i.op)) i.op
    else if is_call (action_of i.op) then plain_bytes i ++ 0xef ∷ []
    else plain_bytes i

-- a branch's form; a call has 4 bytes
abbrev pub target_size : Size → Instr → Size
target_size form i = if is_branch (action_of i.op) then form else Long

-- how many bytes the field of a target has
abbrev pub target_length : Size → Instr → Option (List ℕ) → ℕ
target_length form i None = 0
target_length form i (Some label) = bytes_of (target_size form i)

abbrev pub item_length : Size → CodeItem → ℕ
item_length form (item_kind.Label name) = 0
item_length form (item_kind.Globl name) = 0
item_length form (item_kind.Mask mask) = 2
item_length form (item_kind.Instr i) = length (head_bytes form i) + target_length form i i.target

-- the field of a target, where its end and the labels are known
abbrev pub tail_bytes : (List ℕ → Option ℕ) → ℕ → Size → Option (List ℕ) → List ℕ
tail_bytes labels end size None = []
tail_bytes labels end size (Some label) = field size (way end (labels label))

-- an item at a place of the section
abbrev pub item_bytes : (List ℕ → Option ℕ) → ℕ → Size → CodeItem → List ℕ
item_bytes labels at form (item_kind.Label name) = []
item_bytes labels at form (item_kind.Globl name) = []
item_bytes labels at form (item_kind.Mask mask) = field Word mask
item_bytes labels at form (item_kind.Instr i) =
    head_bytes form i ++ tail_bytes labels (at + item_length form (item_kind.Instr i)) (target_size form i) i.target

abbrev pub item_refs : ℕ → Size → CodeItem → List Ref
item_refs at form (item_kind.Label name) = []
item_refs at form (item_kind.Globl name) = []
item_refs at form (item_kind.Mask mask) = []
item_refs at form (item_kind.Instr i) =
    operands_refs (at + 1) (shape i.op).operands i.operands ++ target_ref (at + length (head_bytes form i)) i.target
