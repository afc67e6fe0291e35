-- Lines of templates with their holes filled.
use Rattle.std.specs.Prelude.{ℕ, Bool, true, false, List, [], ◌∷◌, map, take, Option, Some, None, if◌then◌else◌}
use Rattle.std.specs.List.{list_any}
use Rattle.std.specs.Option.{option_map, option_or}
use Rattle.vax_templates.specs.gg_base.specs.declared.relation.Rel.{Rel}
use Rattle.vax_templates.specs.gg_base.specs.declared.relation.Rel.TheVariants as relations
use Rattle.vax_templates.specs.sel_target.specs.tree_core.specs.declared.tree.Att.{Att}
use Rattle.vax_templates.specs.sel_target.specs.tree_core.specs.declared.tree.Att.TheVariants as att
use Rattle.vax_templates.specs.sel_target.specs.tree_core.specs.declared.program.TreeProgram.{TreeProgram}
use Rattle.vax_templates.specs.sel_target.specs.tree_core.specs.Names.{label_name}
use Rattle.vax_templates.specs.sel_target.specs.md_reader_pieces.specs.declared.piece.Piece.{Piece}
use Rattle.vax_templates.specs.sel_target.specs.declared.attr.Attr.{Attr}
use Rattle.vax_templates.specs.sel_target.specs.declared.attr.Attr.TheVariants as attr
use Rattle.vax_templates.specs.FilledLines.{label_of_att, callee_of_att, callee_name}
use Rattle.l32_core.specs.declared.op.Op32.{Op32}
use Rattle.l32_core.specs.declared.op.Op32.TheVariants as ops
use Rattle.l32_core.specs.declared.op.Part.{Part}
use Rattle.l32_core.specs.declared.op.Part.TheVariants as parts
use Rattle.l32_core.specs.Ops.{shape}
use Rattle.l32_core.specs.declared.operand.Operand32.{Operand32}
use Rattle.l32_core.specs.declared.operand.Operand32.TheVariants as operands
use Rattle.l32_core.specs.declared.code.Instr32.{Instr32}
use Rattle.l32_templates.specs.declared.form.Form.{Form}
use Rattle.l32_templates.specs.Instructions.{Instruction, Relation, Calls, Operates, instruction_of}
use Rattle.l32_templates.specs.Filled.{attr_at, filled}

-- the branch of a relation
abbrev pub op_of_relation : Rel → Op32
op_of_relation relations.Eq = ops.Beq
op_of_relation relations.Ne = ops.Bne
op_of_relation relations.Lt = ops.Blt
op_of_relation relations.Le = ops.Ble
op_of_relation relations.Gt = ops.Bgt
op_of_relation relations.Ge = ops.Bge
op_of_relation relations.Ltu = ops.Bltu
op_of_relation relations.Leu = ops.Bleu
op_of_relation relations.Gtu = ops.Bgtu
op_of_relation relations.Geu = ops.Bgeu

abbrev pub op_of_att : Att → Op32
op_of_att (att.Branch r label) = op_of_relation r
op_of_att a = ops.B

abbrev pub op_in : Attr Operand32 → Op32
op_in (attr.Token l) = op_of_att l.att
op_in a = ops.B

abbrev pub label_in : Attr Operand32 → Option ℕ
label_in (attr.Token l) = label_of_att l.att
label_in a = None

-- the label of a rule's branch or jump
abbrev pub label_among : List (Attr Operand32) → Option ℕ
label_among [] = None
label_among (a ∷ as') = option_or (label_in a) (label_among as')

abbrev pub callee_in : Attr Operand32 → Option (ℕ × ℕ)
callee_in (attr.Token l) = callee_of_att l.att
callee_in a = None

-- what a call calls, and with how many arguments
abbrev pub callee_among : List (Attr Operand32) → Option (ℕ × ℕ)
callee_among [] = None
callee_among (a ∷ as') = option_or (callee_in a) (callee_among as')

abbrev pub plain_return : Instr32
plain_return = record { op = ops.Ret; operands = []; target = None }

abbrev pub call_of : TreeProgram → Option (ℕ × ℕ) → Instr32
call_of p None = plain_return
call_of p (Some c) = record { op = ops.Call; operands = operands.Num c.1 ∷ []; target = Some (callee_name p c.0) }

abbrev pub is_label : Part → Bool
is_label parts.Label = true
is_label (parts.Operand role) = false

-- the label behind a mnemonic that has one
abbrev pub label_behind : Op32 → List (Attr Operand32) → Option (List ℕ)
label_behind op holes = if list_any is_label (shape op).parts then option_map label_name (label_among holes) else None

abbrev pub filled_operands : TreeProgram → List (Attr Operand32) → Attr Operand32 → List Form → List Operand32
filled_operands p holes zero fs = map (filled p holes zero) (take 3 fs)

abbrev pub with_operands : TreeProgram → List (Attr Operand32) → Attr Operand32 → Op32 → List Form → Instr32
with_operands p holes zero op fs = record {
  op = op;
  operands = filled_operands p holes zero fs;
  target = label_behind op holes;
}

abbrev pub filled_instruction : TreeProgram → List (Attr Operand32) → Attr Operand32 → Option Instruction → Instr32
filled_instruction p holes zero None = plain_return
filled_instruction p holes zero (Some (Relation i fs)) = with_operands p holes zero (op_in (attr_at holes zero i)) fs
filled_instruction p holes zero (Some Calls) = call_of p (callee_among holes)
filled_instruction p holes zero (Some (Operates op fs)) = with_operands p holes zero op fs

-- a line with its holes filled; a line that no instruction can be made of becomes a return
abbrev pub filled_line : TreeProgram → List Piece → List (Attr Operand32) → Attr Operand32 → Instr32
filled_line p line holes zero = filled_instruction p holes zero (instruction_of line)
