-- The opcode of each instruction.
use Rattle.std.specs.Prelude.{ℕ, bit_xor, ◌==◌, Bool, true, false, List, [], ◌∷◌, Option}
use Rattle.std.specs.List.{find}
use Rattle.vax_core.specs.declared.op.Op.{Op}
use Rattle.vax_core.specs.declared.op.Op.TheVariants.{Movb, Movw, Movl, Clrb, Clrw, Clrl, Mnegl, Mcoml, Pushl, Cvtbl}
use Rattle.vax_core.specs.declared.op.Op.TheVariants.{Cvtwl, Cvtlb, Cvtlw, Movzbl, Movzwl, Movab, Movaw, Moval, Addl2}
use Rattle.vax_core.specs.declared.op.Op.TheVariants.{Addl3, Subl2, Subl3, Mull2, Mull3, Divl2, Divl3, Incl, Decl}
use Rattle.vax_core.specs.declared.op.Op.TheVariants.{Bisl2, Bisl3, Bicl2, Bicl3, Xorl2, Xorl3, Bitl, Ashl, Cmpb, Cmpw}
use Rattle.vax_core.specs.declared.op.Op.TheVariants.{Cmpl, Tstb, Tstw, Tstl, Jbr, Jeql, Jneq, Jlss, Jleq, Jgtr, Jgeq}
use Rattle.vax_core.specs.declared.op.Op.TheVariants.{Jlssu, Jlequ, Jgtru, Jgequ, Calls, Ret}
use Rattle.vax_machine.specs.declared.function.Action.{Action}
use Rattle.vax_machine.specs.declared.function.Action.TheVariants as action
use Rattle.vax_machine.specs.declared.function.Test.{Test}
use Rattle.vax_machine.specs.declared.function.Test.TheVariants as test

abbrev pub opcode : Op → ℕ
opcode Ret = 0x04
opcode Ashl = 0x78
opcode Calls = 0xfb
opcode Movb = 0x90
opcode Movw = 0xb0
opcode Movl = 0xd0
opcode Clrb = 0x94
opcode Clrw = 0xb4
opcode Clrl = 0xd4
opcode Cmpb = 0x91
opcode Cmpw = 0xb1
opcode Cmpl = 0xd1
opcode Tstb = 0x95
opcode Tstw = 0xb5
opcode Tstl = 0xd5
opcode Cvtbl = 0x98
opcode Cvtwl = 0x32
opcode Cvtlb = 0xf6
opcode Cvtlw = 0xf7
opcode Movzbl = 0x9a
opcode Movzwl = 0x3c
opcode Movab = 0x9e
opcode Movaw = 0x3e
opcode Moval = 0xde
opcode Addl2 = 0xc0
opcode Addl3 = 0xc1
opcode Subl2 = 0xc2
opcode Subl3 = 0xc3
opcode Mull2 = 0xc4
opcode Mull3 = 0xc5
opcode Divl2 = 0xc6
opcode Divl3 = 0xc7
opcode Bisl2 = 0xc8
opcode Bisl3 = 0xc9
opcode Bicl2 = 0xca
opcode Bicl3 = 0xcb
opcode Xorl2 = 0xcc
opcode Xorl3 = 0xcd
opcode Mnegl = 0xce
opcode Mcoml = 0xd2
opcode Bitl = 0xd3
opcode Incl = 0xd6
opcode Decl = 0xd7
opcode Pushl = 0xdd
opcode Jbr = 0x11
opcode Jneq = 0x12
opcode Jeql = 0x13
opcode Jgtr = 0x14
opcode Jleq = 0x15
opcode Jgeq = 0x18
opcode Jlss = 0x19
opcode Jgtru = 0x1a
opcode Jlequ = 0x1b
opcode Jgequ = 0x1e
opcode Jlssu = 0x1f

-- the branch on the opposite condition: opposites differ in the last bit
abbrev pub opposite : Op → ℕ
opposite op = bit_xor (opcode op) 1

-- whether an instruction is a branch, which goes on a condition or always
abbrev pub is_branch : Action → Bool
is_branch (action.Branch t) = true
is_branch a = false

abbrev pub on_condition : Test → Bool
on_condition test.Always = false
on_condition t = true

abbrev pub is_conditional : Action → Bool
is_conditional (action.Branch t) = on_condition t
is_conditional a = false

-- all instructions
abbrev pub all_ops : List Op
all_ops =
    Movb ∷ (Movw ∷ (Movl ∷ (Clrb ∷ (Clrw ∷ (Clrl ∷ (Mnegl ∷ (Mcoml ∷ (Pushl ∷ (Cvtbl ∷ (Cvtwl ∷ (
    Cvtlb ∷ (Cvtlw ∷ (Movzbl ∷ (Movzwl ∷ (Movab ∷ (Movaw ∷ (Moval ∷ (Addl2 ∷ (Addl3 ∷ (Subl2 ∷ (Subl3 ∷ (
    Mull2 ∷ (Mull3 ∷ (Divl2 ∷ (Divl3 ∷ (Incl ∷ (Decl ∷ (Bisl2 ∷ (Bisl3 ∷ (Bicl2 ∷ (Bicl3 ∷ (Xorl2 ∷ (
    Xorl3 ∷ (Bitl ∷ (Ashl ∷ (Cmpb ∷ (Cmpw ∷ (Cmpl ∷ (Tstb ∷ (Tstw ∷ (Tstl ∷ (Jbr ∷ (Jeql ∷ (
    Jneq ∷ (Jlss ∷ (Jleq ∷ (Jgtr ∷ (Jgeq ∷ (Jlssu ∷ (Jlequ ∷ (Jgtru ∷ (Jgequ ∷ (Calls ∷ (Ret ∷ []))))))))))))))))))))))))))))))))))))))))))))))))))))))

-- the instruction of an opcode
abbrev pub has_opcode : ℕ → Op → Bool
has_opcode b op = opcode op == b

unfoldable pub op_of : ℕ → Option Op
op_of b = find (has_opcode b) all_ops
