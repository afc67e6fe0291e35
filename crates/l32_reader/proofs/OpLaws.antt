-- Mnemonics at the front of some bytes.
use Rattle.std.proofs.Common.{◌≡◌, ℕ, List, ◌++◌, length, refl}
use Rattle.gg_base.specs.Fronts.{run_len}
use Rattle.vax_reader.specs.Lines.{in_word}
use Rattle.l32_core.specs.declared.op.Op32.{Op32}
use Rattle.l32_core.specs.declared.op.Op32.TheVariants as op_kind
use Rattle.l32_core.specs.Ops.{shape}

-- a mnemonic is one word
pub is_word : (op : Op32) (rest : List ℕ) → run_len in_word rest ≡ 0 → run_len in_word ((shape op).mnemonic ++ rest) ≡ length (shape op).mnemonic
is_word op_kind.Li rest h = rw h refl
is_word op_kind.La rest h = rw h refl
is_word op_kind.Lb rest h = rw h refl
is_word op_kind.Lbu rest h = rw h refl
is_word op_kind.Lh rest h = rw h refl
is_word op_kind.Lhu rest h = rw h refl
is_word op_kind.Lw rest h = rw h refl
is_word op_kind.Sb rest h = rw h refl
is_word op_kind.Sh rest h = rw h refl
is_word op_kind.Sw rest h = rw h refl
is_word op_kind.Sta rest h = rw h refl
is_word op_kind.Neg rest h = rw h refl
is_word op_kind.Not rest h = rw h refl
is_word op_kind.Add rest h = rw h refl
is_word op_kind.Sub rest h = rw h refl
is_word op_kind.Mul rest h = rw h refl
is_word op_kind.Div rest h = rw h refl
is_word op_kind.And rest h = rw h refl
is_word op_kind.Or rest h = rw h refl
is_word op_kind.Xor rest h = rw h refl
is_word op_kind.Sll rest h = rw h refl
is_word op_kind.Sra rest h = rw h refl
is_word op_kind.Beq rest h = rw h refl
is_word op_kind.Bne rest h = rw h refl
is_word op_kind.Blt rest h = rw h refl
is_word op_kind.Ble rest h = rw h refl
is_word op_kind.Bgt rest h = rw h refl
is_word op_kind.Bge rest h = rw h refl
is_word op_kind.Bltu rest h = rw h refl
is_word op_kind.Bleu rest h = rw h refl
is_word op_kind.Bgtu rest h = rw h refl
is_word op_kind.Bgeu rest h = rw h refl
is_word op_kind.B rest h = rw h refl
is_word op_kind.Push rest h = rw h refl
is_word op_kind.Enter rest h = rw h refl
is_word op_kind.Call rest h = rw h refl
is_word op_kind.Ret rest h = rw h refl
