-- Each mnemonic is found, and what is found is so spelled.
use Rattle.std.proofs.Common.{◌≡◌, ℕ, Bool, true, false, cond, List, [], ◌∷◌, Option, Some, None, refl, sym, ap, ◌∙◌}
use Rattle.std.specs.Prelude.{nat_eq}
use Rattle.std.specs.Cmp.Lexicographic.{pointwise, same_text}
use Rattle.std.proofs.lemmas.Option.{none-some, same_Some}
use Rattle.l32_core.specs.declared.op.Op32.{Op32}
use Rattle.l32_core.specs.declared.op.Op32.TheVariants as op_kind
use Rattle.l32_core.specs.Ops.{shape}
use Rattle.l32_core.specs.Mnemonics.{ops_with, among, op_of, IsOpOf}

-- each mnemonic is found
pub op_again : (op : Op32) → op_of (shape op).mnemonic ≡ Some op
unfolding op_of
op_again op_kind.Li = refl
op_again op_kind.La = refl
op_again op_kind.Lb = refl
op_again op_kind.Lbu = refl
op_again op_kind.Lh = refl
op_again op_kind.Lhu = refl
op_again op_kind.Lw = refl
op_again op_kind.Sb = refl
op_again op_kind.Sh = refl
op_again op_kind.Sw = refl
op_again op_kind.Sta = refl
op_again op_kind.Neg = refl
op_again op_kind.Not = refl
op_again op_kind.Add = refl
op_again op_kind.Sub = refl
op_again op_kind.Mul = refl
op_again op_kind.Div = refl
op_again op_kind.And = refl
op_again op_kind.Or = refl
op_again op_kind.Xor = refl
op_again op_kind.Sll = refl
op_again op_kind.Sra = refl
op_again op_kind.Beq = refl
op_again op_kind.Bne = refl
op_again op_kind.Blt = refl
op_again op_kind.Ble = refl
op_again op_kind.Bgt = refl
op_again op_kind.Bge = refl
op_again op_kind.Bltu = refl
op_again op_kind.Bleu = refl
op_again op_kind.Bgtu = refl
op_again op_kind.Bgeu = refl
op_again op_kind.B = refl
op_again op_kind.Push = refl
op_again op_kind.Enter = refl
op_again op_kind.Call = refl
op_again op_kind.Ret = refl

among_takes : (ops : List Op32) (word : List ℕ) (op : Op32) → among ops word ≡ Some op → word ≡ (shape op).mnemonic
among_takes [] word op e = absurd (none-some op e)
among_takes (o ∷ os) word op e = step (pointwise nat_eq word (shape o).mnemonic) refl (among_takes os word op) e
  where
    step : (t : Bool) → pointwise nat_eq word (shape o).mnemonic ≡ t → (among os word ≡ Some op → word ≡ (shape op).mnemonic) → cond t (Some o) (among os word) ≡ Some op → word ≡ (shape op).mnemonic
    step true f more h = same_text word (shape o).mnemonic (sym f) ∙ ap (λ (x : Op32). (shape x).mnemonic) (same_Some o op h)
    step false f more h = more h

-- what is found is so spelled
pub op_takes : (word : List ℕ) (op : Op32) → op_of word ≡ Some op → word ≡ (shape op).mnemonic
unfolding op_of
op_takes [] op e = absurd (none-some op e)
op_takes (c ∷ cs) op e = among_takes (ops_with c) (c ∷ cs) op e

pub op_is : (word : List ℕ) (found : Option Op32) → op_of word ≡ found → IsOpOf word found
op_is word None e = λ op w. none-some op (sym e ∙ (ap op_of w ∙ op_again op))
op_is word (Some op) e = op_takes word op e
