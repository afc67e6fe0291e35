-- What the table of instructions says: who has a label, and that no instruction has more than three operands.
use Rattle.std.proofs.Common.{◌≡◌, Bool, true, false, length, refl}
use Rattle.std.specs.Prelude.{nat_le}
use Rattle.vax_core.specs.declared.op.Op.{Op}
use Rattle.vax_core.specs.declared.op.Op.TheVariants.{Movb, Movw, Movl, Clrb, Clrw, Clrl, Mnegl, Mcoml, Pushl, Cvtbl, Cvtwl, Cvtlb, Cvtlw, Movzbl, Movzwl, Movab, Movaw, Moval}
use Rattle.vax_core.specs.declared.op.Op.TheVariants.{Addl2, Addl3, Subl2, Subl3, Mull2, Mull3, Divl2, Divl3, Incl, Decl, Bisl2, Bisl3, Bicl2, Bicl3, Xorl2, Xorl3, Bitl, Ashl}
use Rattle.vax_core.specs.declared.op.Op.TheVariants.{Cmpb, Cmpw, Cmpl, Tstb, Tstw, Tstl, Jbr, Jeql, Jneq, Jlss, Jleq, Jgtr, Jgeq, Jlssu, Jlequ, Jgtru, Jgequ, Calls, Ret}
use Rattle.vax_core.specs.Ops.{shape}
use Rattle.vax_target_meaning.specs.vax_machine.specs.declared.function.Action.{Action}
use Rattle.vax_target_meaning.specs.vax_machine.specs.declared.function.Action.TheVariants.{Compute, Push, Branch, Call, Return}
use Rattle.vax_target_meaning.specs.vax_machine.specs.Functions.{action_of}

-- what branches and what calls has a label
abbrev pub goes : Action → Bool
goes (Compute f) = false
goes Push = false
goes (Branch t) = true
goes Call = true
goes Return = false

pub target_is : (op : Op) → (shape op).target ≡ goes (action_of op)
target_is Movb = refl
target_is Movw = refl
target_is Movl = refl
target_is Clrb = refl
target_is Clrw = refl
target_is Clrl = refl
target_is Mnegl = refl
target_is Mcoml = refl
target_is Pushl = refl
target_is Cvtbl = refl
target_is Cvtwl = refl
target_is Cvtlb = refl
target_is Cvtlw = refl
target_is Movzbl = refl
target_is Movzwl = refl
target_is Movab = refl
target_is Movaw = refl
target_is Moval = refl
target_is Addl2 = refl
target_is Addl3 = refl
target_is Subl2 = refl
target_is Subl3 = refl
target_is Mull2 = refl
target_is Mull3 = refl
target_is Divl2 = refl
target_is Divl3 = refl
target_is Incl = refl
target_is Decl = refl
target_is Bisl2 = refl
target_is Bisl3 = refl
target_is Bicl2 = refl
target_is Bicl3 = refl
target_is Xorl2 = refl
target_is Xorl3 = refl
target_is Bitl = refl
target_is Ashl = refl
target_is Cmpb = refl
target_is Cmpw = refl
target_is Cmpl = refl
target_is Tstb = refl
target_is Tstw = refl
target_is Tstl = refl
target_is Jbr = refl
target_is Jeql = refl
target_is Jneq = refl
target_is Jlss = refl
target_is Jleq = refl
target_is Jgtr = refl
target_is Jgeq = refl
target_is Jlssu = refl
target_is Jlequ = refl
target_is Jgtru = refl
target_is Jgequ = refl
target_is Calls = refl
target_is Ret = refl

pub at_most_three : (op : Op) → nat_le (length (shape op).operands) 3 ≡ true
at_most_three Movb = refl
at_most_three Movw = refl
at_most_three Movl = refl
at_most_three Clrb = refl
at_most_three Clrw = refl
at_most_three Clrl = refl
at_most_three Mnegl = refl
at_most_three Mcoml = refl
at_most_three Pushl = refl
at_most_three Cvtbl = refl
at_most_three Cvtwl = refl
at_most_three Cvtlb = refl
at_most_three Cvtlw = refl
at_most_three Movzbl = refl
at_most_three Movzwl = refl
at_most_three Movab = refl
at_most_three Movaw = refl
at_most_three Moval = refl
at_most_three Addl2 = refl
at_most_three Addl3 = refl
at_most_three Subl2 = refl
at_most_three Subl3 = refl
at_most_three Mull2 = refl
at_most_three Mull3 = refl
at_most_three Divl2 = refl
at_most_three Divl3 = refl
at_most_three Incl = refl
at_most_three Decl = refl
at_most_three Bisl2 = refl
at_most_three Bisl3 = refl
at_most_three Bicl2 = refl
at_most_three Bicl3 = refl
at_most_three Xorl2 = refl
at_most_three Xorl3 = refl
at_most_three Bitl = refl
at_most_three Ashl = refl
at_most_three Cmpb = refl
at_most_three Cmpw = refl
at_most_three Cmpl = refl
at_most_three Tstb = refl
at_most_three Tstw = refl
at_most_three Tstl = refl
at_most_three Jbr = refl
at_most_three Jeql = refl
at_most_three Jneq = refl
at_most_three Jlss = refl
at_most_three Jleq = refl
at_most_three Jgtr = refl
at_most_three Jgeq = refl
at_most_three Jlssu = refl
at_most_three Jlequ = refl
at_most_three Jgtru = refl
at_most_three Jgequ = refl
at_most_three Calls = refl
at_most_three Ret = refl
