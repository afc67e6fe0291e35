-- Instructions at the front of a text section, as the reader computes them.
use Rattle.std.specs.Prelude.{ℕ, ◌==◌, List, [], ◌∷◌, ◌++◌, Option, Some, None, is_some, if◌then◌else◌}
use Rattle.std.specs.Option.{option_and_then, option_map}
use Rattle.gg_base.specs.declared.size.Size.{Size}
use Rattle.gg_base.specs.declared.size.Size.TheVariants.{Byte, Word, Long}
use Rattle.vax_core.specs.declared.op.Op.{Op}
use Rattle.vax_core.specs.declared.op.Op.TheVariants as ops
use Rattle.vax_core.specs.declared.op.OperandKind.{OperandKind}
use Rattle.vax_core.specs.declared.operand.Addr.{Addr}
use Rattle.vax_core.specs.declared.operand.Operand.{Operand}
use Rattle.vax_core.specs.declared.code.Instr.{Instr}
use Rattle.vax_core.specs.Ops.{shape}
use Rattle.vax_machine.specs.Functions.{action_of}
use Rattle.vax_machine.specs.Labels.{is_call}
use Rattle.vax_image_format.specs.Opcodes.{opposite, is_branch, op_of}
use Rattle.vax_image_reading.specs.Fronts.{Front, field_front, held_front, ref_at}
use Rattle.vax_image_reading.specs.Operands.{operand_front}

abbrev pub made : Op → List Operand → Option (List ℕ) → Instr
made op os target = record { op = op; operands = os; target = target }

-- the label that a ref names
abbrev pub label_of : Option Addr → Option (List ℕ)
label_of None = None
label_of (Some a) = a.name

abbrev pub to_label : Op → List Operand → ℕ × Option Addr × Front → Option (Instr × Front)
to_label op os x = option_map (λ (label : List ℕ). (made op os (Some label), x.2)) (label_of x.1)

-- the field of a target
abbrev pub target_front : Size → Op → List Operand → Front → Option (Instr × Front)
target_front size op os f = option_and_then (to_label op os) (held_front size f)

-- the same behind a field that tells nothing
abbrev pub target_behind : Size → Size → Op → List Operand → Front → Option (Instr × Front)
target_behind skipped size op os f = option_and_then (λ (x : ℕ × Front). target_front size op os x.1) (field_front skipped f)

-- behind the branch round a jump: `brw` or `jmp`
abbrev pub round_front : Op → ℕ × Front → Option (Instr × Front)
round_front op x =
    if x.0 == 0x03 then target_behind Byte Word op [] x.1
    else if x.0 == 0x06 then target_behind Word Long op [] x.1
    else None

abbrev pub round_behind : Front → Op → Option (Instr × Front)
round_behind f op = option_and_then (round_front op) (field_front Byte f)

-- a branch whose field has a ref; or the branch on the opposite condition, round a jump
abbrev pub branch_front : Front → Op → Option (Instr × Front)
branch_front f op =
    if is_some (ref_at f.place f.refs) then target_front Byte op [] f else option_and_then (round_behind f) (op_of (opposite op))

-- as many operands as there are kinds, behind those that were read
abbrev pub operands_front : List Operand → List OperandKind → Front → Option (List Operand × Front)
operands_front read [] f = Some (read, f)
operands_front read (kind ∷ kinds) f =
    option_and_then (λ (x : Operand × Front). operands_front (read ++ x.0 ∷ []) kinds x.1) (operand_front kind.size f)

abbrev pub behind_operands : Op → List Operand × Front → Option (Instr × Front)
behind_operands op x = if is_call (action_of op) then target_behind Byte Long op x.0 x.1 else Some (made op x.0 None, x.1)

abbrev pub behind_op : Front → Op → Option (Instr × Front)
behind_op f op =
    if is_branch (action_of op) then branch_front f op else option_and_then (behind_operands op) (operands_front [] (shape op).operands f)

abbrev pub behind_opcode : ℕ × Front → Option (Instr × Front)
behind_opcode x =
    if x.0 == 0x31 then target_front Word ops.Jbr [] x.1
    else if x.0 == 0x17 then target_behind Byte Long ops.Jbr [] x.1
    else option_and_then (behind_op x.1) (op_of x.0)

-- an instruction, however long its fields are
unfoldable pub instr_front : Front → Option (Instr × Front)
instr_front f = option_and_then behind_opcode (field_front Byte f)
