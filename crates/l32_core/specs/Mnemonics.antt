-- How a mnemonic is looked up: by its first letter, among few instructions.
use Rattle.std.specs.Prelude.{◌≡◌, ℕ, ◌==◌, nat_eq, List, [], ◌∷◌, Option, Some, None, if◌then◌else◌}
use Rattle.std.specs.Cmp.Lexicographic.{pointwise}
use Rattle.l32_core.specs.declared.op.Op32.{Op32}
use Rattle.l32_core.specs.declared.op.Op32.TheVariants.{Li, La, Lb, Lbu, Lh, Lhu, Lw, Sb, Sh, Sw, Sta, Neg}
use Rattle.l32_core.specs.declared.op.Op32.TheVariants.{Not, Add, Sub, Mul, Div, And, Or, Xor, Sll, Sra, Beq, Bne}
use Rattle.l32_core.specs.declared.op.Op32.TheVariants.{Blt, Ble, Bgt, Bge, Bltu, Bleu, Bgtu, Bgeu, B, Push, Enter, Call}
use Rattle.l32_core.specs.declared.op.Op32.TheVariants.{Ret}
use Rattle.l32_core.specs.Ops.{shape}

-- the instructions whose mnemonic begins with this letter
abbrev pub ops_with : ℕ → List Op32
ops_with c =
    if c == 97 then Add ∷ (And ∷ [])
    else if c == 98 then B ∷ (Beq ∷ (Bne ∷ (Blt ∷ (Ble ∷ (Bgt ∷ (Bge ∷ (Bltu ∷ (Bleu ∷ (Bgtu ∷ (Bgeu ∷ []))))))))))
    else if c == 99 then Call ∷ []
    else if c == 100 then Div ∷ []
    else if c == 101 then Enter ∷ []
    else if c == 108 then Lw ∷ (Li ∷ (La ∷ (Lb ∷ (Lbu ∷ (Lh ∷ (Lhu ∷ []))))))
    else if c == 109 then Mul ∷ []
    else if c == 110 then Neg ∷ (Not ∷ [])
    else if c == 111 then Or ∷ []
    else if c == 112 then Push ∷ []
    else if c == 114 then Ret ∷ []
    else if c == 115 then Sw ∷ (Sub ∷ (Sb ∷ (Sh ∷ (Sta ∷ (Sll ∷ (Sra ∷ []))))))
    else if c == 120 then Xor ∷ []
    else []

-- the first of these instructions that is written so
abbrev pub among : List Op32 → List ℕ → Option Op32
among [] word = None
among (op ∷ ops) word = if pointwise nat_eq word (shape op).mnemonic then Some op else among ops word

-- the instruction of a mnemonic
unfoldable pub op_of : List ℕ → Option Op32
op_of [] = None
op_of (c ∷ cs) = among (ops_with c) (c ∷ cs)

-- it is the instruction that is written so, or none is
abbrev pub IsOpOf : List ℕ → Option Op32 → Type 0
IsOpOf word None = (op : Op32) → word ≡ (shape op).mnemonic → ⊥
IsOpOf word (Some op) = word ≡ (shape op).mnemonic
