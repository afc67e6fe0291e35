-- No instruction takes more than three operands.
use Rattle.std.proofs.Common.{◌≤◌, length, lit≤}
use Rattle.vax_core.specs.declared.op.Op.{Op}
use Rattle.vax_core.specs.declared.op.Op.TheVariants as ops
use Rattle.vax_core.specs.Ops.{shape}

pub few_operands : (op : Op) → length (shape op).operands ≤ 3
few_operands ops.Movb = lit≤ tt
few_operands ops.Movw = lit≤ tt
few_operands ops.Movl = lit≤ tt
few_operands ops.Clrb = lit≤ tt
few_operands ops.Clrw = lit≤ tt
few_operands ops.Clrl = lit≤ tt
few_operands ops.Mnegl = lit≤ tt
few_operands ops.Mcoml = lit≤ tt
few_operands ops.Pushl = lit≤ tt
few_operands ops.Cvtbl = lit≤ tt
few_operands ops.Cvtwl = lit≤ tt
few_operands ops.Cvtlb = lit≤ tt
few_operands ops.Cvtlw = lit≤ tt
few_operands ops.Movzbl = lit≤ tt
few_operands ops.Movzwl = lit≤ tt
few_operands ops.Movab = lit≤ tt
few_operands ops.Movaw = lit≤ tt
few_operands ops.Moval = lit≤ tt
few_operands ops.Addl2 = lit≤ tt
few_operands ops.Addl3 = lit≤ tt
few_operands ops.Subl2 = lit≤ tt
few_operands ops.Subl3 = lit≤ tt
few_operands ops.Mull2 = lit≤ tt
few_operands ops.Mull3 = lit≤ tt
few_operands ops.Divl2 = lit≤ tt
few_operands ops.Divl3 = lit≤ tt
few_operands ops.Incl = lit≤ tt
few_operands ops.Decl = lit≤ tt
few_operands ops.Bisl2 = lit≤ tt
few_operands ops.Bisl3 = lit≤ tt
few_operands ops.Bicl2 = lit≤ tt
few_operands ops.Bicl3 = lit≤ tt
few_operands ops.Xorl2 = lit≤ tt
few_operands ops.Xorl3 = lit≤ tt
few_operands ops.Bitl = lit≤ tt
few_operands ops.Ashl = lit≤ tt
few_operands ops.Cmpb = lit≤ tt
few_operands ops.Cmpw = lit≤ tt
few_operands ops.Cmpl = lit≤ tt
few_operands ops.Tstb = lit≤ tt
few_operands ops.Tstw = lit≤ tt
few_operands ops.Tstl = lit≤ tt
few_operands ops.Jbr = lit≤ tt
few_operands ops.Jeql = lit≤ tt
few_operands ops.Jneq = lit≤ tt
few_operands ops.Jlss = lit≤ tt
few_operands ops.Jleq = lit≤ tt
few_operands ops.Jgtr = lit≤ tt
few_operands ops.Jgeq = lit≤ tt
few_operands ops.Jlssu = lit≤ tt
few_operands ops.Jlequ = lit≤ tt
few_operands ops.Jgtru = lit≤ tt
few_operands ops.Jgequ = lit≤ tt
few_operands ops.Calls = lit≤ tt
few_operands ops.Ret = lit≤ tt
