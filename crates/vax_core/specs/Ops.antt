-- The instruction table: for each mnemonic its operands and whether a label follows them.
use Rattle.std.specs.Prelude.{ℕ, Bool, true, false, List, [], ◌∷◌, codes}
use Rattle.gg_base.specs.declared.Size.{Size}
use Rattle.gg_base.specs.declared.Size.TheVariants.{Byte, Word, Long}
use Rattle.vax_core.specs.declared.op.Op.{Op}
use Rattle.vax_core.specs.declared.op.Op.TheVariants.{Movb, Movw, Movl, Clrb, Clrw, Clrl, Mnegl, Mcoml, Pushl, Cvtbl}
use Rattle.vax_core.specs.declared.op.Op.TheVariants.{Cvtwl, Cvtlb, Cvtlw, Movzbl, Movzwl, Movab, Movaw, Moval, Addl2}
use Rattle.vax_core.specs.declared.op.Op.TheVariants.{Addl3, Subl2, Subl3, Mull2, Mull3, Divl2, Divl3, Incl, Decl}
use Rattle.vax_core.specs.declared.op.Op.TheVariants.{Bisl2, Bisl3, Bicl2, Bicl3, Xorl2, Xorl3, Bitl, Ashl, Cmpb, Cmpw}
use Rattle.vax_core.specs.declared.op.Op.TheVariants.{Cmpl, Tstb, Tstw, Tstl, Jbr, Jeql, Jneq, Jlss, Jleq, Jgtr, Jgeq}
use Rattle.vax_core.specs.declared.op.Op.TheVariants.{Jlssu, Jlequ, Jgtru, Jgequ, Calls, Ret}
use Rattle.vax_core.specs.declared.op.Access.TheVariants.{Read, Modify, Write, Address, Count}
use Rattle.vax_core.specs.declared.op.OperandKind.{OperandKind}
use Rattle.vax_core.specs.declared.op.Shape.{Shape}

-- what stands behind a mnemonic
pub record Row : Type 0 where
  pub mnemonic : List ℕ
  pub operands : List OperandKind
  pub target : Bool

abbrev pub shape_view : Shape → Row
shape_view s = record { mnemonic = s.mnemonic.now; operands = s.operands.now; target = s.target }

-- an operand that is read, read and then written, written, or whose address is taken, at a size
abbrev pub read : Size → OperandKind
read size = record { access = Read; size = size }

abbrev pub modify : Size → OperandKind
modify size = record { access = Modify; size = size }

abbrev pub write : Size → OperandKind
write size = record { access = Write; size = size }

abbrev pub address : Size → OperandKind
address size = record { access = Address; size = size }

-- the number of arguments of a call
abbrev pub count : OperandKind
count = record { access = Count; size = Long }

-- operands alone
abbrev pub row : List ℕ → List OperandKind → Row
row mnemonic operands = record { mnemonic = mnemonic; operands = operands; target = false }

-- operands, then a label
abbrev pub row_to : List ℕ → List OperandKind → Row
row_to mnemonic operands = record { mnemonic = mnemonic; operands = operands; target = true }

-- the table
abbrev pub shape : Op → Row
shape Movb = row (codes "movb") (read Byte ∷ (write Byte ∷ []))
shape Movw = row (codes "movw") (read Word ∷ (write Word ∷ []))
shape Movl = row (codes "movl") (read Long ∷ (write Long ∷ []))
shape Clrb = row (codes "clrb") (write Byte ∷ [])
shape Clrw = row (codes "clrw") (write Word ∷ [])
shape Clrl = row (codes "clrl") (write Long ∷ [])
shape Mnegl = row (codes "mnegl") (read Long ∷ (write Long ∷ []))
shape Mcoml = row (codes "mcoml") (read Long ∷ (write Long ∷ []))
shape Pushl = row (codes "pushl") (read Long ∷ [])
shape Cvtbl = row (codes "cvtbl") (read Byte ∷ (write Long ∷ []))
shape Cvtwl = row (codes "cvtwl") (read Word ∷ (write Long ∷ []))
shape Cvtlb = row (codes "cvtlb") (read Long ∷ (write Byte ∷ []))
shape Cvtlw = row (codes "cvtlw") (read Long ∷ (write Word ∷ []))
shape Movzbl = row (codes "movzbl") (read Byte ∷ (write Long ∷ []))
shape Movzwl = row (codes "movzwl") (read Word ∷ (write Long ∷ []))
shape Movab = row (codes "movab") (address Byte ∷ (write Long ∷ []))
shape Movaw = row (codes "movaw") (address Word ∷ (write Long ∷ []))
shape Moval = row (codes "moval") (address Long ∷ (write Long ∷ []))
shape Addl2 = row (codes "addl2") (read Long ∷ (modify Long ∷ []))
shape Addl3 = row (codes "addl3") (read Long ∷ (read Long ∷ (write Long ∷ [])))
shape Subl2 = row (codes "subl2") (read Long ∷ (modify Long ∷ []))
shape Subl3 = row (codes "subl3") (read Long ∷ (read Long ∷ (write Long ∷ [])))
shape Mull2 = row (codes "mull2") (read Long ∷ (modify Long ∷ []))
shape Mull3 = row (codes "mull3") (read Long ∷ (read Long ∷ (write Long ∷ [])))
shape Divl2 = row (codes "divl2") (read Long ∷ (modify Long ∷ []))
shape Divl3 = row (codes "divl3") (read Long ∷ (read Long ∷ (write Long ∷ [])))
shape Incl = row (codes "incl") (modify Long ∷ [])
shape Decl = row (codes "decl") (modify Long ∷ [])
shape Bisl2 = row (codes "bisl2") (read Long ∷ (modify Long ∷ []))
shape Bisl3 = row (codes "bisl3") (read Long ∷ (read Long ∷ (write Long ∷ [])))
shape Bicl2 = row (codes "bicl2") (read Long ∷ (modify Long ∷ []))
shape Bicl3 = row (codes "bicl3") (read Long ∷ (read Long ∷ (write Long ∷ [])))
shape Xorl2 = row (codes "xorl2") (read Long ∷ (modify Long ∷ []))
shape Xorl3 = row (codes "xorl3") (read Long ∷ (read Long ∷ (write Long ∷ [])))
shape Bitl = row (codes "bitl") (read Long ∷ (read Long ∷ []))
shape Ashl = row (codes "ashl") (read Byte ∷ (read Long ∷ (write Long ∷ [])))
shape Cmpb = row (codes "cmpb") (read Byte ∷ (read Byte ∷ []))
shape Cmpw = row (codes "cmpw") (read Word ∷ (read Word ∷ []))
shape Cmpl = row (codes "cmpl") (read Long ∷ (read Long ∷ []))
shape Tstb = row (codes "tstb") (read Byte ∷ [])
shape Tstw = row (codes "tstw") (read Word ∷ [])
shape Tstl = row (codes "tstl") (read Long ∷ [])
shape Jbr = row_to (codes "jbr") []
shape Jeql = row_to (codes "jeql") []
shape Jneq = row_to (codes "jneq") []
shape Jlss = row_to (codes "jlss") []
shape Jleq = row_to (codes "jleq") []
shape Jgtr = row_to (codes "jgtr") []
shape Jgeq = row_to (codes "jgeq") []
shape Jlssu = row_to (codes "jlssu") []
shape Jlequ = row_to (codes "jlequ") []
shape Jgtru = row_to (codes "jgtru") []
shape Jgequ = row_to (codes "jgequ") []
shape Calls = row_to (codes "calls") (count ∷ [])
shape Ret = row (codes "ret") []
