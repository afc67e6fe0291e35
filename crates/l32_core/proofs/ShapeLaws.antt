-- No instruction takes more than three operands.
use Rattle.std.proofs.Common.{◌≤◌, length, lit≤}
use Rattle.l32_core.specs.declared.op.Op32.{Op32}
use Rattle.l32_core.specs.declared.op.Op32.TheVariants as op_kind
use Rattle.l32_core.specs.Ops.{shape}

pub few_parts : (op : Op32) → length (shape op).parts ≤ 3
few_parts op_kind.Li = lit≤ tt
few_parts op_kind.La = lit≤ tt
few_parts op_kind.Lb = lit≤ tt
few_parts op_kind.Lbu = lit≤ tt
few_parts op_kind.Lh = lit≤ tt
few_parts op_kind.Lhu = lit≤ tt
few_parts op_kind.Lw = lit≤ tt
few_parts op_kind.Sb = lit≤ tt
few_parts op_kind.Sh = lit≤ tt
few_parts op_kind.Sw = lit≤ tt
few_parts op_kind.Sta = lit≤ tt
few_parts op_kind.Neg = lit≤ tt
few_parts op_kind.Not = lit≤ tt
few_parts op_kind.Add = lit≤ tt
few_parts op_kind.Sub = lit≤ tt
few_parts op_kind.Mul = lit≤ tt
few_parts op_kind.Div = lit≤ tt
few_parts op_kind.And = lit≤ tt
few_parts op_kind.Or = lit≤ tt
few_parts op_kind.Xor = lit≤ tt
few_parts op_kind.Sll = lit≤ tt
few_parts op_kind.Sra = lit≤ tt
few_parts op_kind.Beq = lit≤ tt
few_parts op_kind.Bne = lit≤ tt
few_parts op_kind.Blt = lit≤ tt
few_parts op_kind.Ble = lit≤ tt
few_parts op_kind.Bgt = lit≤ tt
few_parts op_kind.Bge = lit≤ tt
few_parts op_kind.Bltu = lit≤ tt
few_parts op_kind.Bleu = lit≤ tt
few_parts op_kind.Bgtu = lit≤ tt
few_parts op_kind.Bgeu = lit≤ tt
few_parts op_kind.B = lit≤ tt
few_parts op_kind.Push = lit≤ tt
few_parts op_kind.Enter = lit≤ tt
few_parts op_kind.Call = lit≤ tt
few_parts op_kind.Ret = lit≤ tt
