-- The table of what instructions do and compute.
use Rattle.std.specs.Prelude.{ℕ, ◌%◌, Option, Some}
use Rattle.gg_base.specs.declared.size.Size.{Size}
use Rattle.gg_base.specs.declared.size.Size.TheVariants.{Byte, Word, Long}
use Rattle.gg_base.specs.declared.relation.Rel.TheVariants as relations
use Rattle.gg_base.specs.Arithmetic.{add32, sub32, mul32, div32, and32, or32, xor32, neg32, com32, sext8, sext16, shifted_left, shifted_right}
use Rattle.l32_core.specs.declared.op.Op32.{Op32}
use Rattle.l32_core.specs.declared.op.Op32.TheVariants as op_kind
use Rattle.l32_machine.specs.declared.function.Function.{Function}
use Rattle.l32_machine.specs.declared.function.Function.TheVariants as functions
use Rattle.l32_machine.specs.declared.function.Action.{Action}
use Rattle.l32_machine.specs.declared.function.Action.TheVariants.{Compute, Branch, Jump, Push, Enter, Call, Return}

-- what a mnemonic does
abbrev pub action_of : Op32 → Action
action_of op_kind.Li = Compute functions.Copy
action_of op_kind.La = Compute functions.Copy
action_of op_kind.Lb = Compute (functions.SignExtend Byte)
action_of op_kind.Lbu = Compute functions.Copy
action_of op_kind.Lh = Compute (functions.SignExtend Word)
action_of op_kind.Lhu = Compute functions.Copy
action_of op_kind.Lw = Compute functions.Copy
action_of op_kind.Sb = Compute functions.Copy
action_of op_kind.Sh = Compute functions.Copy
action_of op_kind.Sw = Compute functions.Copy
action_of op_kind.Sta = Compute functions.Copy
action_of op_kind.Neg = Compute functions.Negate
action_of op_kind.Not = Compute functions.Complement
action_of op_kind.Add = Compute functions.Add
action_of op_kind.Sub = Compute functions.Subtract
action_of op_kind.Mul = Compute functions.Multiply
action_of op_kind.Div = Compute functions.Divide
action_of op_kind.And = Compute functions.And
action_of op_kind.Or = Compute functions.Or
action_of op_kind.Xor = Compute functions.ExclusiveOr
action_of op_kind.Sll = Compute functions.ShiftLeft
action_of op_kind.Sra = Compute functions.ShiftRight
action_of op_kind.Beq = Branch relations.Eq
action_of op_kind.Bne = Branch relations.Ne
action_of op_kind.Blt = Branch relations.Lt
action_of op_kind.Ble = Branch relations.Le
action_of op_kind.Bgt = Branch relations.Gt
action_of op_kind.Bge = Branch relations.Ge
action_of op_kind.Bltu = Branch relations.Ltu
action_of op_kind.Bleu = Branch relations.Leu
action_of op_kind.Bgtu = Branch relations.Gtu
action_of op_kind.Bgeu = Branch relations.Geu
action_of op_kind.B = Jump
action_of op_kind.Push = Push
action_of op_kind.Enter = Enter
action_of op_kind.Call = Call
action_of op_kind.Ret = Return

-- a number of this size with its sign copied to 32 bits
abbrev pub extended : Size → ℕ → ℕ
extended Byte v = sext8 v
extended Word v = sext16 v
extended Long v = v

-- what is computed of the numbers x and y, in their order in the line; nothing where a divisor is zero
abbrev pub applied : Function → ℕ → ℕ → Option ℕ
applied functions.Copy x y = Some x
applied (functions.SignExtend size) x y = Some (extended size x)
applied functions.Negate x y = Some (neg32 x)
applied functions.Complement x y = Some (com32 x)
applied functions.Add x y = Some (add32 x y)
applied functions.Subtract x y = Some (sub32 x y)
applied functions.Multiply x y = Some (mul32 x y)
applied functions.Divide x y = div32 x y
applied functions.And x y = Some (and32 x y)
applied functions.Or x y = Some (or32 x y)
applied functions.ExclusiveOr x y = Some (xor32 x y)
applied functions.ShiftLeft x y = Some (shifted_left (y % 32) x)
applied functions.ShiftRight x y = Some (shifted_right (y % 32) x)
