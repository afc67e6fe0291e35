-- Lines of templates with their holes filled.
-- This is how the code computes it; that instructions do so is the law vax_is_lawful of vax_target_laws.
use Rattle.std.specs.Prelude.{ℕ, ◌-◌, ◌==◌, List, [], ◌∷◌, map, take, length, slice_get, Option, Some, None, if◌then◌else◌, codes}
use Rattle.std.specs.Option.{option_map, option_or}
use Rattle.gg_base.specs.declared.relation.Rel.{Rel}
use Rattle.gg_base.specs.declared.relation.Rel.TheVariants as relations
use Rattle.sel_target.specs.tree_core.specs.declared.tree.Att.{Att}
use Rattle.sel_target.specs.tree_core.specs.declared.tree.Att.TheVariants as att
use Rattle.sel_target.specs.tree_core.specs.declared.program.TreeFn.{TreeFn}
use Rattle.sel_target.specs.tree_core.specs.declared.program.TreeProgram.{TreeProgram}
use Rattle.sel_target.specs.tree_core.specs.Names.{label_name, function_label}
use Rattle.sel_target.specs.md_reader_pieces.specs.declared.piece.Piece.{Piece}
use Rattle.sel_target.specs.declared.attr.Attr.{Attr}
use Rattle.sel_target.specs.declared.attr.Attr.TheVariants as attr
use Rattle.vax_core.specs.declared.operand.Base.TheVariants as bases
use Rattle.vax_core.specs.declared.operand.Operand.{Operand}
use Rattle.vax_core.specs.declared.op.Op.{Op}
use Rattle.vax_core.specs.declared.op.Op.TheVariants as ops
use Rattle.vax_core.specs.declared.code.Instr.{Instr}
use Rattle.vax_templates.specs.Instructions.{Instruction, Relation, Jump, Calls, Ret, Operates, instruction_of}
use Rattle.vax_templates.specs.Filled.{alone, addr_number, attr_at, filled}

-- the branch of a relation
abbrev pub op_of_relation : Rel → Op
op_of_relation relations.Eq = ops.Jeql
op_of_relation relations.Ne = ops.Jneq
op_of_relation relations.Lt = ops.Jlss
op_of_relation relations.Le = ops.Jleq
op_of_relation relations.Gt = ops.Jgtr
op_of_relation relations.Ge = ops.Jgeq
op_of_relation relations.Ltu = ops.Jlssu
op_of_relation relations.Leu = ops.Jlequ
op_of_relation relations.Gtu = ops.Jgtru
op_of_relation relations.Geu = ops.Jgequ

abbrev pub op_of_att : Att → Op
op_of_att (att.Branch r label) = op_of_relation r
op_of_att a = ops.Jbr

abbrev pub op_in : Attr Operand → Op
op_in (attr.Token l) = op_of_att l.att
op_in a = ops.Jbr

abbrev pub label_of_att : Att → Option ℕ
label_of_att (att.Branch r label) = Some label
label_of_att (att.Label label) = Some label
label_of_att a = None

abbrev pub label_in : Attr Operand → Option ℕ
label_in (attr.Token l) = label_of_att l.att
label_in a = None

-- the label of a rule's branch or jump
abbrev pub label_among : List (Attr Operand) → Option ℕ
label_among [] = None
label_among (a ∷ as') = option_or (label_in a) (label_among as')

abbrev pub branch_to : Op → List (Attr Operand) → Instr
branch_to op holes = record { op = op; operands = []; target = option_map label_name (label_among holes) }

-- what a call calls, and with how many arguments
abbrev pub callee_of_att : Att → Option (ℕ × ℕ)
callee_of_att (att.Callee function count) = Some (function, count)
callee_of_att a = None

abbrev pub callee_in : Attr Operand → Option (ℕ × ℕ)
callee_in (attr.Token l) = callee_of_att l.att
callee_in a = None

abbrev pub callee_among : List (Attr Operand) → Option (ℕ × ℕ)
callee_among [] = None
callee_among (a ∷ as') = option_or (callee_in a) (callee_among as')

-- behind the program's functions come the services
abbrev pub service_name : ℕ → List ℕ
service_name n = if n == 0 then codes "_putchar" else codes "_getchar"

abbrev pub function_name : Option TreeFn → ℕ → List ℕ
function_name (Some f) service = function_label f.name
function_name None service = service_name service

abbrev pub callee_name : TreeProgram → ℕ → List ℕ
callee_name p n = function_name (slice_get p.functions n) (n - length p.functions)

abbrev pub plain_return : Instr
plain_return = record { op = ops.Ret; operands = []; target = None }

abbrev pub call_of : TreeProgram → Option (ℕ × ℕ) → Instr
call_of p None = plain_return
call_of p (Some c) = record { op = ops.Calls; operands = alone (bases.Imm (addr_number c.1)) ∷ []; target = Some (callee_name p c.0) }

abbrev pub filled_instruction : TreeProgram → List (Attr Operand) → Attr Operand → Option Instruction → Instr
filled_instruction p holes zero None = plain_return
filled_instruction p holes zero (Some (Relation i)) = branch_to (op_in (attr_at holes zero i)) holes
filled_instruction p holes zero (Some Jump) = branch_to ops.Jbr holes
filled_instruction p holes zero (Some Calls) = call_of p (callee_among holes)
filled_instruction p holes zero (Some Ret) = plain_return
filled_instruction p holes zero (Some (Operates op fs)) = record {
  op = op;
  operands = map (filled p holes zero) (take 3 fs);
  target = None;
}

-- a line with its holes filled; a line that no instruction can be made of becomes a return
abbrev pub filled_line : TreeProgram → List Piece → List (Attr Operand) → Attr Operand → Instr
filled_line p line holes zero = filled_instruction p holes zero (instruction_of line)
