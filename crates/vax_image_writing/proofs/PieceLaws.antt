-- How long operands and instructions are.
use Rattle.std.proofs.Common.{◌≡◌, ℕ, ◌+◌, true, false, List, [], ◌∷◌, length, Option, Some, None, refl, sym, arith, length-append}
use Rattle.std.specs.Prelude.{is_some}
use Rattle.gg_base.specs.declared.size.Size.{Size}
use Rattle.gg_base.specs.declared.size.Size.TheVariants.{Byte}
use Rattle.gg_base.specs.Sizes.{bytes_of}
use Rattle.gg_base.proofs.Facts.{false_true}
use Rattle.vax_core.specs.declared.op.OperandKind.{OperandKind}
use Rattle.vax_core.specs.declared.operand.Operand.{Operand}
use Rattle.vax_core.specs.declared.code.Instr.{Instr}
use Rattle.vax_core.specs.declared.code.CodeItem.TheVariants as item_kind
use Rattle.vax_core.specs.Ops.{shape}
use Rattle.vax_machine.specs.Functions.{action_of}
use Rattle.vax_machine.specs.Labels.{is_call}
use Rattle.vax_image_format.specs.Opcodes.{is_branch}
use Rattle.vax_image_format.specs.Specifiers.{addr_field, operand_bytes}
use Rattle.vax_image_format.specs.Instructions.{operands_bytes, plain_bytes, target_length, item_length}
use Rattle.vax_image_format.proofs.LengthLaws.{field_length}

pub addr_long : (size : Size) (name : Option (List ℕ)) (n : ℕ) → length (addr_field size name n) ≡ bytes_of size
addr_long size None n = field_length size n
addr_long size (Some name) n = field_length size 0

-- the operands that are left, behind one more
pub operands_more : (kind : OperandKind) (kinds : List OperandKind) (o : Operand) (os : List Operand)
    → length (operands_bytes (kind ∷ kinds) (o ∷ os)) ≡ length (operand_bytes kind.size o) + length (operands_bytes kinds os)
operands_more kind kinds o os = length-append (operand_bytes kind.size o) (operands_bytes kinds os)

-- an instruction that is no branch

pub target_there : (i : Instr) (target : Option (List ℕ)) → is_branch (action_of i.op) ≡ false → is_some target ≡ true → target_length Byte i target ≡ 4
target_there i None branch h = false_true h
target_there i (Some label) branch h = rw branch refl

pub target_missing : (i : Instr) (target : Option (List ℕ)) → is_some target ≡ false → target_length Byte i target ≡ 0
target_missing i None h = refl
target_missing i (Some label) h = false_true (sym h)

pub plain_long : (i : Instr) (operands four : ℕ) → is_branch (action_of i.op) ≡ false → is_call (action_of i.op) ≡ false → operands ≡ length (operands_bytes (shape i.op).operands i.operands)
    → target_length Byte i i.target ≡ four → 1 + operands + four ≡ item_length Byte (item_kind.Instr i)
plain_long i operands four branch call is target = rw (branch, call) (omega (arith, is, target))

pub call_long : (i : Instr) (operands four : ℕ) → is_branch (action_of i.op) ≡ false → is_call (action_of i.op) ≡ true → operands ≡ length (operands_bytes (shape i.op).operands i.operands)
    → target_length Byte i i.target ≡ four → 2 + operands + four ≡ item_length Byte (item_kind.Instr i)
call_long i operands four branch call is target = rw (branch, call) (omega (arith, is, target, length-append (plain_bytes i) (0xef ∷ [])))

pub ruleset length_facts = (target_there, target_missing, plain_long, call_long)
