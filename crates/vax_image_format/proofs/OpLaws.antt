-- What opcodes tell of instructions.
use Rattle.std.proofs.Common.{◌≡◌, true, false, eqb, ◌||◌, [], Some, refl}
use Rattle.vax_core.specs.declared.op.Op.{Op}
use Rattle.vax_core.specs.declared.op.Op.TheVariants.{Movb, Movw, Movl, Clrb, Clrw, Clrl, Mnegl, Mcoml, Pushl, Cvtbl}
use Rattle.vax_core.specs.declared.op.Op.TheVariants.{Cvtwl, Cvtlb, Cvtlw, Movzbl, Movzwl, Movab, Movaw, Moval, Addl2}
use Rattle.vax_core.specs.declared.op.Op.TheVariants.{Addl3, Subl2, Subl3, Mull2, Mull3, Divl2, Divl3, Incl, Decl}
use Rattle.vax_core.specs.declared.op.Op.TheVariants.{Bisl2, Bisl3, Bicl2, Bicl3, Xorl2, Xorl3, Bitl, Ashl, Cmpb, Cmpw}
use Rattle.vax_core.specs.declared.op.Op.TheVariants.{Cmpl, Tstb, Tstw, Tstl, Jbr, Jeql, Jneq, Jlss, Jleq, Jgtr, Jgeq}
use Rattle.vax_core.specs.declared.op.Op.TheVariants.{Jlssu, Jlequ, Jgtru, Jgequ, Calls, Ret}
use Rattle.vax_core.specs.Ops.{shape}
use Rattle.vax_machine.specs.Functions.{action_of}
use Rattle.vax_machine.specs.Labels.{is_call}
use Rattle.vax_image_format.specs.Opcodes.{opcode, opposite, is_branch, is_conditional}
use Rattle.vax_image_format.specs.Opcodes.{op_of}

-- an opcode is no other instruction's
pub op_again : (op : Op) → op_of (opcode op) ≡ Some op
unfolding op_of
op_again Movb = refl
op_again Movw = refl
op_again Movl = refl
op_again Clrb = refl
op_again Clrw = refl
op_again Clrl = refl
op_again Mnegl = refl
op_again Mcoml = refl
op_again Pushl = refl
op_again Cvtbl = refl
op_again Cvtwl = refl
op_again Cvtlb = refl
op_again Cvtlw = refl
op_again Movzbl = refl
op_again Movzwl = refl
op_again Movab = refl
op_again Movaw = refl
op_again Moval = refl
op_again Addl2 = refl
op_again Addl3 = refl
op_again Subl2 = refl
op_again Subl3 = refl
op_again Mull2 = refl
op_again Mull3 = refl
op_again Divl2 = refl
op_again Divl3 = refl
op_again Incl = refl
op_again Decl = refl
op_again Bisl2 = refl
op_again Bisl3 = refl
op_again Bicl2 = refl
op_again Bicl3 = refl
op_again Xorl2 = refl
op_again Xorl3 = refl
op_again Bitl = refl
op_again Ashl = refl
op_again Cmpb = refl
op_again Cmpw = refl
op_again Cmpl = refl
op_again Tstb = refl
op_again Tstw = refl
op_again Tstl = refl
op_again Jbr = refl
op_again Jeql = refl
op_again Jneq = refl
op_again Jlss = refl
op_again Jleq = refl
op_again Jgtr = refl
op_again Jgeq = refl
op_again Jlssu = refl
op_again Jlequ = refl
op_again Jgtru = refl
op_again Jgequ = refl
op_again Calls = refl
op_again Ret = refl

-- nor that of `brw` or `jmp`
pub no_jump : (op : Op) → (eqb (opcode op) 0x31 ≡ false) × (eqb (opcode op) 0x17 ≡ false)
no_jump Movb = (refl, refl)
no_jump Movw = (refl, refl)
no_jump Movl = (refl, refl)
no_jump Clrb = (refl, refl)
no_jump Clrw = (refl, refl)
no_jump Clrl = (refl, refl)
no_jump Mnegl = (refl, refl)
no_jump Mcoml = (refl, refl)
no_jump Pushl = (refl, refl)
no_jump Cvtbl = (refl, refl)
no_jump Cvtwl = (refl, refl)
no_jump Cvtlb = (refl, refl)
no_jump Cvtlw = (refl, refl)
no_jump Movzbl = (refl, refl)
no_jump Movzwl = (refl, refl)
no_jump Movab = (refl, refl)
no_jump Movaw = (refl, refl)
no_jump Moval = (refl, refl)
no_jump Addl2 = (refl, refl)
no_jump Addl3 = (refl, refl)
no_jump Subl2 = (refl, refl)
no_jump Subl3 = (refl, refl)
no_jump Mull2 = (refl, refl)
no_jump Mull3 = (refl, refl)
no_jump Divl2 = (refl, refl)
no_jump Divl3 = (refl, refl)
no_jump Incl = (refl, refl)
no_jump Decl = (refl, refl)
no_jump Bisl2 = (refl, refl)
no_jump Bisl3 = (refl, refl)
no_jump Bicl2 = (refl, refl)
no_jump Bicl3 = (refl, refl)
no_jump Xorl2 = (refl, refl)
no_jump Xorl3 = (refl, refl)
no_jump Bitl = (refl, refl)
no_jump Ashl = (refl, refl)
no_jump Cmpb = (refl, refl)
no_jump Cmpw = (refl, refl)
no_jump Cmpl = (refl, refl)
no_jump Tstb = (refl, refl)
no_jump Tstw = (refl, refl)
no_jump Tstl = (refl, refl)
no_jump Jbr = (refl, refl)
no_jump Jeql = (refl, refl)
no_jump Jneq = (refl, refl)
no_jump Jlss = (refl, refl)
no_jump Jleq = (refl, refl)
no_jump Jgtr = (refl, refl)
no_jump Jgeq = (refl, refl)
no_jump Jlssu = (refl, refl)
no_jump Jlequ = (refl, refl)
no_jump Jgtru = (refl, refl)
no_jump Jgequ = (refl, refl)
no_jump Calls = (refl, refl)
no_jump Ret = (refl, refl)

-- a target stands where a branch or a call is
pub has_target : (op : Op) → (shape op).target ≡ (is_branch (action_of op) || is_call (action_of op))
has_target Movb = refl
has_target Movw = refl
has_target Movl = refl
has_target Clrb = refl
has_target Clrw = refl
has_target Clrl = refl
has_target Mnegl = refl
has_target Mcoml = refl
has_target Pushl = refl
has_target Cvtbl = refl
has_target Cvtwl = refl
has_target Cvtlb = refl
has_target Cvtlw = refl
has_target Movzbl = refl
has_target Movzwl = refl
has_target Movab = refl
has_target Movaw = refl
has_target Moval = refl
has_target Addl2 = refl
has_target Addl3 = refl
has_target Subl2 = refl
has_target Subl3 = refl
has_target Mull2 = refl
has_target Mull3 = refl
has_target Divl2 = refl
has_target Divl3 = refl
has_target Incl = refl
has_target Decl = refl
has_target Bisl2 = refl
has_target Bisl3 = refl
has_target Bicl2 = refl
has_target Bicl3 = refl
has_target Xorl2 = refl
has_target Xorl3 = refl
has_target Bitl = refl
has_target Ashl = refl
has_target Cmpb = refl
has_target Cmpw = refl
has_target Cmpl = refl
has_target Tstb = refl
has_target Tstw = refl
has_target Tstl = refl
has_target Jbr = refl
has_target Jeql = refl
has_target Jneq = refl
has_target Jlss = refl
has_target Jleq = refl
has_target Jgtr = refl
has_target Jgeq = refl
has_target Jlssu = refl
has_target Jlequ = refl
has_target Jgtru = refl
has_target Jgequ = refl
has_target Calls = refl
has_target Ret = refl

-- a branch on a condition has an opposite, whose opposite it is
pub record HasOpposite (op : Op) : Type 0 where
  pub other : Op
  pub first : op_of (opposite op) ≡ Some other
  pub branch : is_branch (action_of other) ≡ true
  pub back : op_of (opposite other) ≡ Some op
  pub word : eqb (opposite op) 0x31 ≡ false
  pub long : eqb (opposite op) 0x17 ≡ false

differ : false ≡ true → ⊥
differ e = cc

differ_too : true ≡ false → ⊥
differ_too e = cc

pub opposites : (op : Op) → is_conditional (action_of op) ≡ true → HasOpposite op
unfolding op_of
opposites Movb e = absurd (differ e)
opposites Movw e = absurd (differ e)
opposites Movl e = absurd (differ e)
opposites Clrb e = absurd (differ e)
opposites Clrw e = absurd (differ e)
opposites Clrl e = absurd (differ e)
opposites Mnegl e = absurd (differ e)
opposites Mcoml e = absurd (differ e)
opposites Pushl e = absurd (differ e)
opposites Cvtbl e = absurd (differ e)
opposites Cvtwl e = absurd (differ e)
opposites Cvtlb e = absurd (differ e)
opposites Cvtlw e = absurd (differ e)
opposites Movzbl e = absurd (differ e)
opposites Movzwl e = absurd (differ e)
opposites Movab e = absurd (differ e)
opposites Movaw e = absurd (differ e)
opposites Moval e = absurd (differ e)
opposites Addl2 e = absurd (differ e)
opposites Addl3 e = absurd (differ e)
opposites Subl2 e = absurd (differ e)
opposites Subl3 e = absurd (differ e)
opposites Mull2 e = absurd (differ e)
opposites Mull3 e = absurd (differ e)
opposites Divl2 e = absurd (differ e)
opposites Divl3 e = absurd (differ e)
opposites Incl e = absurd (differ e)
opposites Decl e = absurd (differ e)
opposites Bisl2 e = absurd (differ e)
opposites Bisl3 e = absurd (differ e)
opposites Bicl2 e = absurd (differ e)
opposites Bicl3 e = absurd (differ e)
opposites Xorl2 e = absurd (differ e)
opposites Xorl3 e = absurd (differ e)
opposites Bitl e = absurd (differ e)
opposites Ashl e = absurd (differ e)
opposites Cmpb e = absurd (differ e)
opposites Cmpw e = absurd (differ e)
opposites Cmpl e = absurd (differ e)
opposites Tstb e = absurd (differ e)
opposites Tstw e = absurd (differ e)
opposites Tstl e = absurd (differ e)
opposites Jbr e = absurd (differ e)
opposites Jeql e = record { other = Jneq; first = refl; branch = refl; back = refl; word = refl; long = refl }
opposites Jneq e = record { other = Jeql; first = refl; branch = refl; back = refl; word = refl; long = refl }
opposites Jlss e = record { other = Jgeq; first = refl; branch = refl; back = refl; word = refl; long = refl }
opposites Jleq e = record { other = Jgtr; first = refl; branch = refl; back = refl; word = refl; long = refl }
opposites Jgtr e = record { other = Jleq; first = refl; branch = refl; back = refl; word = refl; long = refl }
opposites Jgeq e = record { other = Jlss; first = refl; branch = refl; back = refl; word = refl; long = refl }
opposites Jlssu e = record { other = Jgequ; first = refl; branch = refl; back = refl; word = refl; long = refl }
opposites Jlequ e = record { other = Jgtru; first = refl; branch = refl; back = refl; word = refl; long = refl }
opposites Jgtru e = record { other = Jlequ; first = refl; branch = refl; back = refl; word = refl; long = refl }
opposites Jgequ e = record { other = Jlssu; first = refl; branch = refl; back = refl; word = refl; long = refl }
opposites Calls e = absurd (differ e)
opposites Ret e = absurd (differ e)

-- a branch has no operands
pub no_kinds : (op : Op) → is_branch (action_of op) ≡ true → (shape op).operands ≡ []
no_kinds Movb e = absurd (differ e)
no_kinds Movw e = absurd (differ e)
no_kinds Movl e = absurd (differ e)
no_kinds Clrb e = absurd (differ e)
no_kinds Clrw e = absurd (differ e)
no_kinds Clrl e = absurd (differ e)
no_kinds Mnegl e = absurd (differ e)
no_kinds Mcoml e = absurd (differ e)
no_kinds Pushl e = absurd (differ e)
no_kinds Cvtbl e = absurd (differ e)
no_kinds Cvtwl e = absurd (differ e)
no_kinds Cvtlb e = absurd (differ e)
no_kinds Cvtlw e = absurd (differ e)
no_kinds Movzbl e = absurd (differ e)
no_kinds Movzwl e = absurd (differ e)
no_kinds Movab e = absurd (differ e)
no_kinds Movaw e = absurd (differ e)
no_kinds Moval e = absurd (differ e)
no_kinds Addl2 e = absurd (differ e)
no_kinds Addl3 e = absurd (differ e)
no_kinds Subl2 e = absurd (differ e)
no_kinds Subl3 e = absurd (differ e)
no_kinds Mull2 e = absurd (differ e)
no_kinds Mull3 e = absurd (differ e)
no_kinds Divl2 e = absurd (differ e)
no_kinds Divl3 e = absurd (differ e)
no_kinds Incl e = absurd (differ e)
no_kinds Decl e = absurd (differ e)
no_kinds Bisl2 e = absurd (differ e)
no_kinds Bisl3 e = absurd (differ e)
no_kinds Bicl2 e = absurd (differ e)
no_kinds Bicl3 e = absurd (differ e)
no_kinds Xorl2 e = absurd (differ e)
no_kinds Xorl3 e = absurd (differ e)
no_kinds Bitl e = absurd (differ e)
no_kinds Ashl e = absurd (differ e)
no_kinds Cmpb e = absurd (differ e)
no_kinds Cmpw e = absurd (differ e)
no_kinds Cmpl e = absurd (differ e)
no_kinds Tstb e = absurd (differ e)
no_kinds Tstw e = absurd (differ e)
no_kinds Tstl e = absurd (differ e)
no_kinds Jbr e = refl
no_kinds Jeql e = refl
no_kinds Jneq e = refl
no_kinds Jlss e = refl
no_kinds Jleq e = refl
no_kinds Jgtr e = refl
no_kinds Jgeq e = refl
no_kinds Jlssu e = refl
no_kinds Jlequ e = refl
no_kinds Jgtru e = refl
no_kinds Jgequ e = refl
no_kinds Calls e = absurd (differ e)
no_kinds Ret e = absurd (differ e)

-- one that goes on no condition is `jbr`
pub always : (op : Op) → is_branch (action_of op) ≡ true → is_conditional (action_of op) ≡ false → op ≡ Jbr
always Movb e d = absurd (differ e)
always Movw e d = absurd (differ e)
always Movl e d = absurd (differ e)
always Clrb e d = absurd (differ e)
always Clrw e d = absurd (differ e)
always Clrl e d = absurd (differ e)
always Mnegl e d = absurd (differ e)
always Mcoml e d = absurd (differ e)
always Pushl e d = absurd (differ e)
always Cvtbl e d = absurd (differ e)
always Cvtwl e d = absurd (differ e)
always Cvtlb e d = absurd (differ e)
always Cvtlw e d = absurd (differ e)
always Movzbl e d = absurd (differ e)
always Movzwl e d = absurd (differ e)
always Movab e d = absurd (differ e)
always Movaw e d = absurd (differ e)
always Moval e d = absurd (differ e)
always Addl2 e d = absurd (differ e)
always Addl3 e d = absurd (differ e)
always Subl2 e d = absurd (differ e)
always Subl3 e d = absurd (differ e)
always Mull2 e d = absurd (differ e)
always Mull3 e d = absurd (differ e)
always Divl2 e d = absurd (differ e)
always Divl3 e d = absurd (differ e)
always Incl e d = absurd (differ e)
always Decl e d = absurd (differ e)
always Bisl2 e d = absurd (differ e)
always Bisl3 e d = absurd (differ e)
always Bicl2 e d = absurd (differ e)
always Bicl3 e d = absurd (differ e)
always Xorl2 e d = absurd (differ e)
always Xorl3 e d = absurd (differ e)
always Bitl e d = absurd (differ e)
always Ashl e d = absurd (differ e)
always Cmpb e d = absurd (differ e)
always Cmpw e d = absurd (differ e)
always Cmpl e d = absurd (differ e)
always Tstb e d = absurd (differ e)
always Tstw e d = absurd (differ e)
always Tstl e d = absurd (differ e)
always Jbr e d = refl
always Jeql e d = absurd (differ_too d)
always Jneq e d = absurd (differ_too d)
always Jlss e d = absurd (differ_too d)
always Jleq e d = absurd (differ_too d)
always Jgtr e d = absurd (differ_too d)
always Jgeq e d = absurd (differ_too d)
always Jlssu e d = absurd (differ_too d)
always Jlequ e d = absurd (differ_too d)
always Jgtru e d = absurd (differ_too d)
always Jgequ e d = absurd (differ_too d)
always Calls e d = absurd (differ e)
always Ret e d = absurd (differ e)
