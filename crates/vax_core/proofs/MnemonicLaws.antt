-- Each mnemonic is found, and what is found is so spelled.
use Rattle.std.proofs.Common.{◌≡◌, ℕ, Bool, true, false, cond, List, [], ◌∷◌, Option, Some, None, refl, sym, ap, ◌∙◌}
use Rattle.std.specs.Prelude.{nat_eq}
use Rattle.std.specs.Cmp.Lexicographic.{pointwise, same_text}
use Rattle.std.proofs.lemmas.Option.{none-some, same_Some}
use Rattle.vax_core.specs.declared.op.Op.{Op}
use Rattle.vax_core.specs.declared.op.Op.TheVariants.{Movb, Movw, Movl, Clrb, Clrw, Clrl, Mnegl, Mcoml, Pushl, Cvtbl, Cvtwl, Cvtlb, Cvtlw, Movzbl, Movzwl, Movab, Movaw, Moval}
use Rattle.vax_core.specs.declared.op.Op.TheVariants.{Addl2, Addl3, Subl2, Subl3, Mull2, Mull3, Divl2, Divl3, Incl, Decl, Bisl2, Bisl3, Bicl2, Bicl3, Xorl2, Xorl3, Bitl, Ashl}
use Rattle.vax_core.specs.declared.op.Op.TheVariants.{Cmpb, Cmpw, Cmpl, Tstb, Tstw, Tstl, Jbr, Jeql, Jneq, Jlss, Jleq, Jgtr, Jgeq, Jlssu, Jlequ, Jgtru, Jgequ, Calls, Ret}
use Rattle.vax_core.specs.Ops.{shape}
use Rattle.vax_core.specs.Mnemonics.{ops_with, among, op_of, IsOpOf}

-- each mnemonic is found
pub op_again : (op : Op) → op_of (shape op).mnemonic ≡ Some op
unfolding op_of
op_again Movb = refl
op_again Movw = refl
op_again Movl = refl
op_again Clrb = refl
op_again Clrw = refl
op_again Clrl = refl
op_again Mnegl = refl
op_again Mcoml = refl
op_again Pushl = refl
op_again Cvtbl = refl
op_again Cvtwl = refl
op_again Cvtlb = refl
op_again Cvtlw = refl
op_again Movzbl = refl
op_again Movzwl = refl
op_again Movab = refl
op_again Movaw = refl
op_again Moval = refl
op_again Addl2 = refl
op_again Addl3 = refl
op_again Subl2 = refl
op_again Subl3 = refl
op_again Mull2 = refl
op_again Mull3 = refl
op_again Divl2 = refl
op_again Divl3 = refl
op_again Incl = refl
op_again Decl = refl
op_again Bisl2 = refl
op_again Bisl3 = refl
op_again Bicl2 = refl
op_again Bicl3 = refl
op_again Xorl2 = refl
op_again Xorl3 = refl
op_again Bitl = refl
op_again Ashl = refl
op_again Cmpb = refl
op_again Cmpw = refl
op_again Cmpl = refl
op_again Tstb = refl
op_again Tstw = refl
op_again Tstl = refl
op_again Jbr = refl
op_again Jeql = refl
op_again Jneq = refl
op_again Jlss = refl
op_again Jleq = refl
op_again Jgtr = refl
op_again Jgeq = refl
op_again Jlssu = refl
op_again Jlequ = refl
op_again Jgtru = refl
op_again Jgequ = refl
op_again Calls = refl
op_again Ret = refl

among_takes : (ops : List Op) (word : List ℕ) (op : Op) → among ops word ≡ Some op → word ≡ (shape op).mnemonic
among_takes [] word op e = absurd (none-some op e)
among_takes (o ∷ os) word op e = step (pointwise nat_eq word (shape o).mnemonic) refl (among_takes os word op) e
  where
    step : (t : Bool) → pointwise nat_eq word (shape o).mnemonic ≡ t → (among os word ≡ Some op → word ≡ (shape op).mnemonic) → cond t (Some o) (among os word) ≡ Some op → word ≡ (shape op).mnemonic
    step true f more h = same_text word (shape o).mnemonic (sym f) ∙ ap (λ (x : Op). (shape x).mnemonic) (same_Some o op h)
    step false f more h = more h

-- what is found is so spelled
pub op_takes : (word : List ℕ) (op : Op) → op_of word ≡ Some op → word ≡ (shape op).mnemonic
unfolding op_of
op_takes [] op e = absurd (none-some op e)
op_takes (c ∷ cs) op e = among_takes (ops_with c) (c ∷ cs) op e

pub op_is : (word : List ℕ) (found : Option Op) → op_of word ≡ found → IsOpOf word found
op_is word None e = λ op w. none-some op (sym e ∙ (ap op_of w ∙ op_again op))
op_is word (Some op) e = op_takes word op e
