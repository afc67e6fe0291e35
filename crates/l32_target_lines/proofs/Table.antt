-- What the table of instructions says: who has a label, and that at most one operand is written.
use Rattle.std.proofs.Common.{◌≡◌, Bool, true, false, not, ◌||◌, refl}
use Rattle.std.specs.List.{list_any, list_all}
use Rattle.gg_base.specs.declared.relation.Rel.{Rel}
use Rattle.gg_base.specs.declared.relation.Rel.TheVariants as relations
use Rattle.l32_target_operands.specs.l32_templates.specs.l32_core.specs.declared.op.Op32.{Op32}
use Rattle.l32_target_operands.specs.l32_templates.specs.l32_core.specs.declared.op.Op32.TheVariants as ops
use Rattle.l32_target_operands.specs.l32_templates.specs.l32_core.specs.declared.op.Part.{Part}
use Rattle.l32_target_operands.specs.l32_templates.specs.l32_core.specs.Ops.{shape}
use Rattle.l32_target_operands.specs.l32_templates.specs.l32_machine.specs.declared.function.Action.{Action}
use Rattle.l32_target_operands.specs.l32_templates.specs.l32_machine.specs.declared.function.Action.TheVariants as action
use Rattle.l32_target_operands.specs.l32_templates.specs.l32_machine.specs.Functions.{action_of}
use Rattle.l32_target_operands.specs.l32_templates.specs.Judging.{is_ret}
use Rattle.l32_target_operands.specs.l32_templates.specs.FilledLines.{op_of_relation, is_label}
use Rattle.l32_target_lines.specs.Takings.{aims, aims_once}

-- what branches and what calls has a label
abbrev pub goes : Action → Bool
goes (action.Branch r) = true
goes action.Jump = true
goes action.Call = true
goes a = false

pub label_is : (op : Op32) → list_any is_label (shape op).parts ≡ goes (action_of op)
label_is ops.Li = refl
label_is ops.La = refl
label_is ops.Lb = refl
label_is ops.Lbu = refl
label_is ops.Lh = refl
label_is ops.Lhu = refl
label_is ops.Lw = refl
label_is ops.Sb = refl
label_is ops.Sh = refl
label_is ops.Sw = refl
label_is ops.Sta = refl
label_is ops.Neg = refl
label_is ops.Not = refl
label_is ops.Add = refl
label_is ops.Sub = refl
label_is ops.Mul = refl
label_is ops.Div = refl
label_is ops.And = refl
label_is ops.Or = refl
label_is ops.Xor = refl
label_is ops.Sll = refl
label_is ops.Sra = refl
label_is ops.Beq = refl
label_is ops.Bne = refl
label_is ops.Blt = refl
label_is ops.Ble = refl
label_is ops.Bgt = refl
label_is ops.Bge = refl
label_is ops.Bltu = refl
label_is ops.Bleu = refl
label_is ops.Bgtu = refl
label_is ops.Bgeu = refl
label_is ops.B = refl
label_is ops.Push = refl
label_is ops.Enter = refl
label_is ops.Call = refl
label_is ops.Ret = refl

pub written_once : (op : Op32) → aims_once (shape op).parts ≡ true
written_once ops.Li = refl
written_once ops.La = refl
written_once ops.Lb = refl
written_once ops.Lbu = refl
written_once ops.Lh = refl
written_once ops.Lhu = refl
written_once ops.Lw = refl
written_once ops.Sb = refl
written_once ops.Sh = refl
written_once ops.Sw = refl
written_once ops.Sta = refl
written_once ops.Neg = refl
written_once ops.Not = refl
written_once ops.Add = refl
written_once ops.Sub = refl
written_once ops.Mul = refl
written_once ops.Div = refl
written_once ops.And = refl
written_once ops.Or = refl
written_once ops.Xor = refl
written_once ops.Sll = refl
written_once ops.Sra = refl
written_once ops.Beq = refl
written_once ops.Bne = refl
written_once ops.Blt = refl
written_once ops.Ble = refl
written_once ops.Bgt = refl
written_once ops.Bge = refl
written_once ops.Bltu = refl
written_once ops.Bleu = refl
written_once ops.Bgtu = refl
written_once ops.Bgeu = refl
written_once ops.B = refl
written_once ops.Push = refl
written_once ops.Enter = refl
written_once ops.Call = refl
written_once ops.Ret = refl

-- only what computes writes
abbrev pub computes : Action → Bool
computes (action.Compute f) = true
computes a = false

pub plain_unless : (op : Op32) → (computes (action_of op) || list_all (λ (q : Part). not (aims q)) (shape op).parts) ≡ true
plain_unless ops.Li = refl
plain_unless ops.La = refl
plain_unless ops.Lb = refl
plain_unless ops.Lbu = refl
plain_unless ops.Lh = refl
plain_unless ops.Lhu = refl
plain_unless ops.Lw = refl
plain_unless ops.Sb = refl
plain_unless ops.Sh = refl
plain_unless ops.Sw = refl
plain_unless ops.Sta = refl
plain_unless ops.Neg = refl
plain_unless ops.Not = refl
plain_unless ops.Add = refl
plain_unless ops.Sub = refl
plain_unless ops.Mul = refl
plain_unless ops.Div = refl
plain_unless ops.And = refl
plain_unless ops.Or = refl
plain_unless ops.Xor = refl
plain_unless ops.Sll = refl
plain_unless ops.Sra = refl
plain_unless ops.Beq = refl
plain_unless ops.Bne = refl
plain_unless ops.Blt = refl
plain_unless ops.Ble = refl
plain_unless ops.Bgt = refl
plain_unless ops.Bge = refl
plain_unless ops.Bltu = refl
plain_unless ops.Bleu = refl
plain_unless ops.Bgtu = refl
plain_unless ops.Bgeu = refl
plain_unless ops.B = refl
plain_unless ops.Push = refl
plain_unless ops.Enter = refl
plain_unless ops.Call = refl
plain_unless ops.Ret = refl

pub ret_is : (op : Op32) → is_ret op ≡ true → op ≡ ops.Ret
ret_is ops.Ret e = refl
ret_is _ e = absurd cc

-- all branches have the same parts
pub relation_parts : (r : Rel) → (shape (op_of_relation r)).parts ≡ (shape ops.Beq).parts
relation_parts relations.Eq = refl
relation_parts relations.Ne = refl
relation_parts relations.Lt = refl
relation_parts relations.Le = refl
relation_parts relations.Gt = refl
relation_parts relations.Ge = refl
relation_parts relations.Ltu = refl
relation_parts relations.Leu = refl
relation_parts relations.Gtu = refl
relation_parts relations.Geu = refl

pub relation_action : (r : Rel) → action_of (op_of_relation r) ≡ action.Branch r
relation_action relations.Eq = refl
relation_action relations.Ne = refl
relation_action relations.Lt = refl
relation_action relations.Le = refl
relation_action relations.Gt = refl
relation_action relations.Ge = refl
relation_action relations.Ltu = refl
relation_action relations.Leu = refl
relation_action relations.Gtu = refl
relation_action relations.Geu = refl
