-- What holds of each row of the instruction table, and how a mnemonic is looked up.
use Rattle.std.proofs.Common.{◌≡◌, ℕ, List, ◌∷◌, ◌++◌, length, None, refl}
use Rattle.std.specs.Prelude.{codes}
use Rattle.gg_base.specs.Fronts.{run_len}
use Rattle.vax_core.specs.declared.op.Op.{Op}
use Rattle.vax_core.specs.declared.op.Op.TheVariants.{Movb, Movw, Movl, Clrb, Clrw, Clrl, Mnegl, Mcoml, Pushl, Cvtbl, Cvtwl, Cvtlb, Cvtlw, Movzbl, Movzwl, Movab, Movaw, Moval}
use Rattle.vax_core.specs.declared.op.Op.TheVariants.{Addl2, Addl3, Subl2, Subl3, Mull2, Mull3, Divl2, Divl3, Incl, Decl, Bisl2, Bisl3, Bicl2, Bicl3, Xorl2, Xorl3, Bitl, Ashl}
use Rattle.vax_core.specs.declared.op.Op.TheVariants.{Cmpb, Cmpw, Cmpl, Tstb, Tstw, Tstl, Jbr, Jeql, Jneq, Jlss, Jleq, Jgtr, Jgeq, Jlssu, Jlequ, Jgtru, Jgequ, Calls, Ret}
use Rattle.vax_core.specs.Ops.{shape}
use Rattle.vax_reader.specs.Fronts.{strip}
use Rattle.vax_reader.specs.Lines.{in_word}

-- a mnemonic is one word
pub is_word : (op : Op) (rest : List ℕ) → run_len in_word rest ≡ 0 → run_len in_word ((shape op).mnemonic ++ rest) ≡ length (shape op).mnemonic
is_word Movb rest h = rw h refl
is_word Movw rest h = rw h refl
is_word Movl rest h = rw h refl
is_word Clrb rest h = rw h refl
is_word Clrw rest h = rw h refl
is_word Clrl rest h = rw h refl
is_word Mnegl rest h = rw h refl
is_word Mcoml rest h = rw h refl
is_word Pushl rest h = rw h refl
is_word Cvtbl rest h = rw h refl
is_word Cvtwl rest h = rw h refl
is_word Cvtlb rest h = rw h refl
is_word Cvtlw rest h = rw h refl
is_word Movzbl rest h = rw h refl
is_word Movzwl rest h = rw h refl
is_word Movab rest h = rw h refl
is_word Movaw rest h = rw h refl
is_word Moval rest h = rw h refl
is_word Addl2 rest h = rw h refl
is_word Addl3 rest h = rw h refl
is_word Subl2 rest h = rw h refl
is_word Subl3 rest h = rw h refl
is_word Mull2 rest h = rw h refl
is_word Mull3 rest h = rw h refl
is_word Divl2 rest h = rw h refl
is_word Divl3 rest h = rw h refl
is_word Incl rest h = rw h refl
is_word Decl rest h = rw h refl
is_word Bisl2 rest h = rw h refl
is_word Bisl3 rest h = rw h refl
is_word Bicl2 rest h = rw h refl
is_word Bicl3 rest h = rw h refl
is_word Xorl2 rest h = rw h refl
is_word Xorl3 rest h = rw h refl
is_word Bitl rest h = rw h refl
is_word Ashl rest h = rw h refl
is_word Cmpb rest h = rw h refl
is_word Cmpw rest h = rw h refl
is_word Cmpl rest h = rw h refl
is_word Tstb rest h = rw h refl
is_word Tstw rest h = rw h refl
is_word Tstl rest h = rw h refl
is_word Jbr rest h = rw h refl
is_word Jeql rest h = rw h refl
is_word Jneq rest h = rw h refl
is_word Jlss rest h = rw h refl
is_word Jleq rest h = rw h refl
is_word Jgtr rest h = rw h refl
is_word Jgeq rest h = rw h refl
is_word Jlssu rest h = rw h refl
is_word Jlequ rest h = rw h refl
is_word Jgtru rest h = rw h refl
is_word Jgequ rest h = rw h refl
is_word Calls rest h = rw h refl
is_word Ret rest h = rw h refl

-- no mnemonic is a directive
pub no_directive : (op : Op) (rest : List ℕ) → (strip (codes "\t.globl\t") (9 ∷ ((shape op).mnemonic ++ rest)) ≡ None) × (strip (codes "\t.word\t") (9 ∷ ((shape op).mnemonic ++ rest)) ≡ None)
no_directive Movb rest = (refl, refl)
no_directive Movw rest = (refl, refl)
no_directive Movl rest = (refl, refl)
no_directive Clrb rest = (refl, refl)
no_directive Clrw rest = (refl, refl)
no_directive Clrl rest = (refl, refl)
no_directive Mnegl rest = (refl, refl)
no_directive Mcoml rest = (refl, refl)
no_directive Pushl rest = (refl, refl)
no_directive Cvtbl rest = (refl, refl)
no_directive Cvtwl rest = (refl, refl)
no_directive Cvtlb rest = (refl, refl)
no_directive Cvtlw rest = (refl, refl)
no_directive Movzbl rest = (refl, refl)
no_directive Movzwl rest = (refl, refl)
no_directive Movab rest = (refl, refl)
no_directive Movaw rest = (refl, refl)
no_directive Moval rest = (refl, refl)
no_directive Addl2 rest = (refl, refl)
no_directive Addl3 rest = (refl, refl)
no_directive Subl2 rest = (refl, refl)
no_directive Subl3 rest = (refl, refl)
no_directive Mull2 rest = (refl, refl)
no_directive Mull3 rest = (refl, refl)
no_directive Divl2 rest = (refl, refl)
no_directive Divl3 rest = (refl, refl)
no_directive Incl rest = (refl, refl)
no_directive Decl rest = (refl, refl)
no_directive Bisl2 rest = (refl, refl)
no_directive Bisl3 rest = (refl, refl)
no_directive Bicl2 rest = (refl, refl)
no_directive Bicl3 rest = (refl, refl)
no_directive Xorl2 rest = (refl, refl)
no_directive Xorl3 rest = (refl, refl)
no_directive Bitl rest = (refl, refl)
no_directive Ashl rest = (refl, refl)
no_directive Cmpb rest = (refl, refl)
no_directive Cmpw rest = (refl, refl)
no_directive Cmpl rest = (refl, refl)
no_directive Tstb rest = (refl, refl)
no_directive Tstw rest = (refl, refl)
no_directive Tstl rest = (refl, refl)
no_directive Jbr rest = (refl, refl)
no_directive Jeql rest = (refl, refl)
no_directive Jneq rest = (refl, refl)
no_directive Jlss rest = (refl, refl)
no_directive Jleq rest = (refl, refl)
no_directive Jgtr rest = (refl, refl)
no_directive Jgeq rest = (refl, refl)
no_directive Jlssu rest = (refl, refl)
no_directive Jlequ rest = (refl, refl)
no_directive Jgtru rest = (refl, refl)
no_directive Jgequ rest = (refl, refl)
no_directive Calls rest = (refl, refl)
no_directive Ret rest = (refl, refl)
