-- The instruction table: for each mnemonic what stands behind it.
use Rattle.std.specs.Prelude.{ℕ, List, [], ◌∷◌, codes}
use Rattle.gg_base.specs.declared.size.Size.{Size}
use Rattle.gg_base.specs.declared.size.Size.TheVariants.{Byte, Word, Long}
use Rattle.l32_core.specs.declared.op.Op32.{Op32}
use Rattle.l32_core.specs.declared.op.Op32.TheVariants.{Li, La, Lb, Lbu, Lh, Lhu, Lw, Sb, Sh, Sw, Sta, Neg}
use Rattle.l32_core.specs.declared.op.Op32.TheVariants.{Not, Add, Sub, Mul, Div, And, Or, Xor, Sll, Sra, Beq, Bne}
use Rattle.l32_core.specs.declared.op.Op32.TheVariants.{Blt, Ble, Bgt, Bge, Bltu, Bleu, Bgtu, Bgeu, B, Push, Enter, Call}
use Rattle.l32_core.specs.declared.op.Op32.TheVariants.{Ret}
use Rattle.l32_core.specs.declared.op.Role.TheVariants as roles
use Rattle.l32_core.specs.declared.op.Part.{Part}
use Rattle.l32_core.specs.declared.op.Part.TheVariants.{Operand, Label}
use Rattle.l32_core.specs.declared.op.Shape32.{Shape32}

-- a mnemonic and what stands behind it, from left to right
pub record Row : Type 0 where
  pub mnemonic : List ℕ
  pub parts : List Part

abbrev pub shape_view : Shape32 → Row
shape_view s = record { mnemonic = s.mnemonic.now; parts = s.parts.now }

-- numbers: any, of a frame's longwords, of a call's arguments
abbrev pub number : Part
number = Operand roles.Number

abbrev pub words : Part
words = Operand roles.Words

abbrev pub count : Part
count = Operand roles.Count

-- registers: one that is written, and one that is read
abbrev pub destination : Part
destination = Operand roles.Destination

abbrev pub register : Part
register = Operand roles.Register

-- a register or memory that is read, memory that is written, and memory whose address is taken
abbrev pub source : Size → Part
source size = Operand (roles.Source size)

abbrev pub store : Size → Part
store size = Operand (roles.Store size)

abbrev pub address : Part
address = Operand roles.Address

abbrev pub row : List ℕ → List Part → Row
row mnemonic parts = record { mnemonic = mnemonic; parts = parts }

-- the table
abbrev pub shape : Op32 → Row
shape Li = row (codes "li") (destination ∷ (number ∷ []))
shape La = row (codes "la") (destination ∷ (address ∷ []))
shape Lb = row (codes "lb") (destination ∷ (source Byte ∷ []))
shape Lbu = row (codes "lbu") (destination ∷ (source Byte ∷ []))
shape Lh = row (codes "lh") (destination ∷ (source Word ∷ []))
shape Lhu = row (codes "lhu") (destination ∷ (source Word ∷ []))
shape Lw = row (codes "lw") (destination ∷ (source Long ∷ []))
shape Sb = row (codes "sb") (source Byte ∷ (store Byte ∷ []))
shape Sh = row (codes "sh") (source Word ∷ (store Word ∷ []))
shape Sw = row (codes "sw") (source Long ∷ (store Long ∷ []))
shape Sta = row (codes "sta") (address ∷ (store Long ∷ []))
shape Neg = row (codes "neg") (destination ∷ (register ∷ []))
shape Not = row (codes "not") (destination ∷ (register ∷ []))
shape Add = row (codes "add") (destination ∷ (register ∷ (register ∷ [])))
shape Sub = row (codes "sub") (destination ∷ (register ∷ (register ∷ [])))
shape Mul = row (codes "mul") (destination ∷ (register ∷ (register ∷ [])))
shape Div = row (codes "div") (destination ∷ (register ∷ (register ∷ [])))
shape And = row (codes "and") (destination ∷ (register ∷ (register ∷ [])))
shape Or = row (codes "or") (destination ∷ (register ∷ (register ∷ [])))
shape Xor = row (codes "xor") (destination ∷ (register ∷ (register ∷ [])))
shape Sll = row (codes "sll") (destination ∷ (register ∷ (register ∷ [])))
shape Sra = row (codes "sra") (destination ∷ (register ∷ (register ∷ [])))
shape Beq = row (codes "beq") (register ∷ (register ∷ (Label ∷ [])))
shape Bne = row (codes "bne") (register ∷ (register ∷ (Label ∷ [])))
shape Blt = row (codes "blt") (register ∷ (register ∷ (Label ∷ [])))
shape Ble = row (codes "ble") (register ∷ (register ∷ (Label ∷ [])))
shape Bgt = row (codes "bgt") (register ∷ (register ∷ (Label ∷ [])))
shape Bge = row (codes "bge") (register ∷ (register ∷ (Label ∷ [])))
shape Bltu = row (codes "bltu") (register ∷ (register ∷ (Label ∷ [])))
shape Bleu = row (codes "bleu") (register ∷ (register ∷ (Label ∷ [])))
shape Bgtu = row (codes "bgtu") (register ∷ (register ∷ (Label ∷ [])))
shape Bgeu = row (codes "bgeu") (register ∷ (register ∷ (Label ∷ [])))
shape B = row (codes "b") (Label ∷ [])
shape Push = row (codes "push") (source Long ∷ [])
shape Enter = row (codes "enter") (words ∷ [])
shape Call = row (codes "call") (Label ∷ (count ∷ []))
shape Ret = row (codes "ret") []
