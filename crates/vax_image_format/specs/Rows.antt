-- Worked rows: a program that writes two bytes, and a branch over 126 and over 128 bytes.
use Rattle.std.specs.Prelude.{◌≡◌, ℕ, ◌+◌, List, [], ◌∷◌, ◌++◌, take, drop, map, replicate, Option, Some, None, codes}
use Rattle.gg_base.specs.declared.size.Size.{Size}
use Rattle.gg_base.specs.declared.size.Size.TheVariants.{Byte, Word}
use Rattle.vax_core.specs.declared.register.Reg.TheVariants.{R0, Sp}
use Rattle.vax_core.specs.declared.operand.Base.TheVariants as bases
use Rattle.vax_core.specs.declared.operand.Operand.{Operand}
use Rattle.vax_core.specs.declared.op.Op.{Op}
use Rattle.vax_core.specs.declared.op.Op.TheVariants.{Pushl, Movl, Clrl, Jbr, Calls, Ret}
use Rattle.vax_core.specs.declared.code.CodeItem.{CodeItem}
use Rattle.vax_core.specs.declared.code.CodeItem.TheVariants as item_kind
use Rattle.vax_core.specs.First.{main_name, putchar_name, imm, in_reg}
use Rattle.vax_image_branches.specs.Least.{IsLeast}
use Rattle.vax_image_format.specs.Specifiers.{ref}
use Rattle.vax_image_format.specs.Sections.{text_refs}
use Rattle.vax_image_format.specs.Image.{pieces_of, text_section}

-- `.globl _main`, `_main:` and an entry mask that saves no register
abbrev pub entry : List CodeItem
entry = item_kind.Globl main_name ∷ (item_kind.Label main_name ∷ (item_kind.Mask 0 ∷ []))

abbrev pub instr : Op → List Operand → Option (List ℕ) → CodeItem
instr op os target = item_kind.Instr (record { op = op; operands = os; target = target })

abbrev pub push : ℕ → CodeItem
push n = instr Pushl (imm n ∷ []) None

-- `calls $1,_putchar`
abbrev pub put : CodeItem
put = instr Calls (imm 1 ∷ []) (Some putchar_name)

-- `movl (sp)+,r0`
abbrev pub pop : CodeItem
pop = instr Movl (record { base = bases.Inc Sp; index = None } ∷ (in_reg R0 ∷ [])) None

abbrev pub hi : List CodeItem
hi = entry ++ push 72 ∷ (put ∷ (push 105 ∷ (put ∷ (push 0 ∷ (pop ∷ (instr Ret [] None ∷ []))))))

abbrev pub shortest : List CodeItem → List Size
shortest items = map (λ (item : CodeItem). Byte) items

-- the sections of the program that writes `Hi`
pub record HiRow : Type 0 where
  pub least : IsLeast (pieces_of hi) (shortest hi)
  pub text : text_section hi (shortest hi) ≡
      0x00 ∷ (0x00 ∷ (0xdd ∷ (0x8f ∷ (0x48 ∷ (0x00 ∷ (0x00 ∷ (0x00
      ∷ (0xfb ∷ (0x01 ∷ (0xef ∷ (0x00 ∷ (0x00 ∷ (0x00 ∷ (0x00
      ∷ (0xdd ∷ (0x8f ∷ (0x69 ∷ (0x00 ∷ (0x00 ∷ (0x00
      ∷ (0xfb ∷ (0x01 ∷ (0xef ∷ (0x00 ∷ (0x00 ∷ (0x00 ∷ (0x00
      ∷ (0xdd ∷ (0x00 ∷ (0xd0 ∷ (0x8e ∷ (0x50 ∷ (0x04 ∷ [])))))))))))))))))))))))))))))))))
  pub refs : text_refs 0 hi (shortest hi) ≡ ref 11 (Some putchar_name) 0 ++ ref 24 (Some putchar_name) 0

-- a branch over so many `clrl r0`, of 2 bytes each
abbrev pub over : ℕ → List CodeItem
over n =
    entry
    ++ (instr Jbr [] (Some (codes "L0"))
    ∷ (replicate n (instr Clrl (in_reg R0 ∷ []) None) ++ (item_kind.Label (codes "L0") ∷ (instr Ret [] None ∷ []))))

-- all forms are short but that of the branch, which stands behind the entry's three items
abbrev pub only_branch : Size → ℕ → List Size
only_branch form n = Byte ∷ (Byte ∷ (Byte ∷ (form ∷ replicate (n + 2) Byte)))

-- 126 bytes are spanned by a byte
pub record NearRow : Type 0 where
  pub least : IsLeast (pieces_of (over 63)) (only_branch Byte 63)
  pub bytes : take 2 (drop 2 (text_section (over 63) (only_branch Byte 63))) ≡ 0x11 ∷ (0x7e ∷ [])

-- 128 are not
pub record FarRow : Type 0 where
  pub least : IsLeast (pieces_of (over 64)) (only_branch Word 64)
  pub bytes : take 3 (drop 2 (text_section (over 64) (only_branch Word 64))) ≡ 0x31 ∷ (0x80 ∷ (0x00 ∷ []))
