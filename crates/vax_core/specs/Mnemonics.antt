-- How a mnemonic is looked up: by its first letter, among few instructions.
use Rattle.std.specs.Prelude.{◌≡◌, ℕ, ◌==◌, nat_eq, List, [], ◌∷◌, Option, Some, None, if◌then◌else◌}
use Rattle.std.specs.Cmp.Lexicographic.{pointwise}
use Rattle.vax_core.specs.declared.op.Op.{Op}
use Rattle.vax_core.specs.declared.op.Op.TheVariants.{Movb, Movw, Movl, Clrb, Clrw, Clrl, Mnegl, Mcoml, Pushl, Cvtbl}
use Rattle.vax_core.specs.declared.op.Op.TheVariants.{Cvtwl, Cvtlb, Cvtlw, Movzbl, Movzwl, Movab, Movaw, Moval, Addl2}
use Rattle.vax_core.specs.declared.op.Op.TheVariants.{Addl3, Subl2, Subl3, Mull2, Mull3, Divl2, Divl3, Incl, Decl}
use Rattle.vax_core.specs.declared.op.Op.TheVariants.{Bisl2, Bisl3, Bicl2, Bicl3, Xorl2, Xorl3, Bitl, Ashl, Cmpb, Cmpw}
use Rattle.vax_core.specs.declared.op.Op.TheVariants.{Cmpl, Tstb, Tstw, Tstl, Jbr, Jeql, Jneq, Jlss, Jleq, Jgtr, Jgeq}
use Rattle.vax_core.specs.declared.op.Op.TheVariants.{Jlssu, Jlequ, Jgtru, Jgequ, Calls, Ret}
use Rattle.vax_core.specs.Ops.{shape}

-- the instructions whose mnemonic begins with this letter
abbrev pub ops_with : ℕ → List Op
ops_with c =
    if c == 97 then Addl2 ∷ (Addl3 ∷ (Ashl ∷ []))
    else if c == 98 then Bisl2 ∷ (Bisl3 ∷ (Bicl2 ∷ (Bicl3 ∷ (Bitl ∷ []))))
    else if c == 99 then Clrl ∷ (Cmpl ∷ (Calls ∷ (Clrb ∷ (Clrw ∷ (Cvtbl ∷ (Cvtwl ∷ (Cvtlb ∷ (Cvtlw ∷ (Cmpb ∷ (Cmpw ∷ []))))))))))
    else if c == 100 then Divl2 ∷ (Divl3 ∷ (Decl ∷ []))
    else if c == 105 then Incl ∷ []
    else if c == 106 then Jbr ∷ (Jeql ∷ (Jneq ∷ (Jlss ∷ (Jleq ∷ (Jgtr ∷ (Jgeq ∷ (Jlssu ∷ (Jlequ ∷ (Jgtru ∷ (Jgequ ∷ []))))))))))
    else if c == 109 then Movl ∷ (Movb ∷ (Movw ∷ (Mull2 ∷ (Mull3 ∷ (Moval ∷
    (Movab ∷ (Movaw ∷ (Movzbl ∷ (Movzwl ∷ (Mnegl ∷ (Mcoml ∷ [])))))))))))
    else if c == 112 then Pushl ∷ []
    else if c == 114 then Ret ∷ []
    else if c == 115 then Subl2 ∷ (Subl3 ∷ [])
    else if c == 116 then Tstl ∷ (Tstb ∷ (Tstw ∷ []))
    else if c == 120 then Xorl2 ∷ (Xorl3 ∷ [])
    else []

-- the first of these instructions that is written so
abbrev pub among : List Op → List ℕ → Option Op
among [] word = None
among (op ∷ ops) word = if pointwise nat_eq word (shape op).mnemonic then Some op else among ops word

-- the instruction of a mnemonic
unfoldable pub op_of : List ℕ → Option Op
op_of [] = None
op_of (c ∷ cs) = among (ops_with c) (c ∷ cs)

-- it is the instruction that is written so, or none is
abbrev pub IsOpOf : List ℕ → Option Op → Type 0
IsOpOf word None = (op : Op) → word ≡ (shape op).mnemonic → ⊥
IsOpOf word (Some op) = word ≡ (shape op).mnemonic
