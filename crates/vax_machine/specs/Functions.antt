-- The table of what instructions compute, and of what becomes of the condition codes N, Z and C.
use Rattle.std.specs.Prelude.{ℕ, ◌+◌, ◌^◌, Bool, true, false, not, ◌||◌, ◌==◌, nat_lt, nat_le, Option, Some, None}
use Rattle.gg_base.specs.declared.size.Size.{Size}
use Rattle.gg_base.specs.declared.size.Size.TheVariants.{Byte, Word, Long}
use Rattle.gg_base.specs.declared.relation.Rel.TheVariants as relations
use Rattle.gg_base.specs.Relations.{holds}
use Rattle.gg_base.specs.Arithmetic.{add32, sub32, mul32, and32, or32, xor32, neg32, com32, sext8, sext16, div32, ash32}
use Rattle.vax_core.specs.declared.op.Op.{Op}
use Rattle.vax_core.specs.declared.op.Op.TheVariants as ops
use Rattle.vax_machine.specs.declared.function.Conditions.{Conditions}
use Rattle.vax_machine.specs.declared.function.Computed.{Computed}
use Rattle.vax_machine.specs.declared.function.Function.{Function}
use Rattle.vax_machine.specs.declared.function.Function.TheVariants as functions
use Rattle.vax_machine.specs.declared.function.Test.{Test}
use Rattle.vax_machine.specs.declared.function.Test.TheVariants as test
use Rattle.vax_machine.specs.declared.function.Action.{Action}
use Rattle.vax_machine.specs.declared.function.Action.TheVariants.{Compute, Push, Branch, Call, Return}
use Rattle.gg_base.specs.Sizes.{low}

-- what a mnemonic does
abbrev pub action_of : Op → Action
action_of ops.Movb = Compute (functions.Copy Byte)
action_of ops.Movw = Compute (functions.Copy Word)
action_of ops.Movl = Compute (functions.Copy Long)
action_of ops.Clrb = Compute functions.Clear
action_of ops.Clrw = Compute functions.Clear
action_of ops.Clrl = Compute functions.Clear
action_of ops.Mnegl = Compute functions.Negate
action_of ops.Mcoml = Compute functions.Complement
action_of ops.Pushl = Push
action_of ops.Cvtbl = Compute (functions.SignExtend Byte)
action_of ops.Cvtwl = Compute (functions.SignExtend Word)
action_of ops.Cvtlb = Compute (functions.Truncate Byte)
action_of ops.Cvtlw = Compute (functions.Truncate Word)
action_of ops.Movzbl = Compute (functions.Copy Long)
action_of ops.Movzwl = Compute (functions.Copy Long)
action_of ops.Movab = Compute (functions.Copy Long)
action_of ops.Movaw = Compute (functions.Copy Long)
action_of ops.Moval = Compute (functions.Copy Long)
action_of ops.Addl2 = Compute functions.Add
action_of ops.Addl3 = Compute functions.Add
action_of ops.Subl2 = Compute functions.Subtract
action_of ops.Subl3 = Compute functions.Subtract
action_of ops.Mull2 = Compute functions.Multiply
action_of ops.Mull3 = Compute functions.Multiply
action_of ops.Divl2 = Compute functions.Divide
action_of ops.Divl3 = Compute functions.Divide
action_of ops.Incl = Compute functions.Increment
action_of ops.Decl = Compute functions.Decrement
action_of ops.Bisl2 = Compute functions.BitSet
action_of ops.Bisl3 = Compute functions.BitSet
action_of ops.Bicl2 = Compute functions.BitClear
action_of ops.Bicl3 = Compute functions.BitClear
action_of ops.Xorl2 = Compute functions.ExclusiveOr
action_of ops.Xorl3 = Compute functions.ExclusiveOr
action_of ops.Bitl = Compute functions.BitTest
action_of ops.Ashl = Compute functions.Shift
action_of ops.Cmpb = Compute (functions.Compare Byte)
action_of ops.Cmpw = Compute (functions.Compare Word)
action_of ops.Cmpl = Compute (functions.Compare Long)
action_of ops.Tstb = Compute (functions.CompareWithZero Byte)
action_of ops.Tstw = Compute (functions.CompareWithZero Word)
action_of ops.Tstl = Compute (functions.CompareWithZero Long)
action_of ops.Jbr = Branch test.Always
action_of ops.Jeql = Branch test.Equal
action_of ops.Jneq = Branch test.NotEqual
action_of ops.Jlss = Branch test.Less
action_of ops.Jleq = Branch test.LessOrEqual
action_of ops.Jgtr = Branch test.Greater
action_of ops.Jgeq = Branch test.GreaterOrEqual
action_of ops.Jlssu = Branch test.LessUnsigned
action_of ops.Jlequ = Branch test.LessOrEqualUnsigned
action_of ops.Jgtru = Branch test.GreaterUnsigned
action_of ops.Jgequ = Branch test.GreaterOrEqualUnsigned
action_of ops.Calls = Call
action_of ops.Ret = Return

-- a number of this size is negative
abbrev pub is_negative_at : Size → ℕ → Bool
is_negative_at Byte v = nat_le (2 ^ 7) v
is_negative_at Word v = nat_le (2 ^ 15) v
is_negative_at Long v = nat_le (2 ^ 31) v

-- a number of this size, as a longword of the same sign
abbrev pub extended : Size → ℕ → ℕ
extended Byte v = sext8 v
extended Word v = sext16 v
extended Long v = v

-- a result with N and Z from itself at its size
abbrev pub valued : Size → ℕ → Bool → Computed
valued size v c = record { value = v; conditions = record { negative = is_negative_at size v; is_zero = v == 0; carry = c } }

-- no result but the condition codes
abbrev pub only_conditions : Bool → Bool → Bool → Computed
only_conditions n z c = record { value = 0; conditions = record { negative = n; is_zero = z; carry = c } }

abbrev pub quotient : Option ℕ → Option Computed
quotient None = None
quotient (Some q) = Some (valued Long q false)

-- what is computed of the first and the second operand, and of C as it was; nothing where it traps
abbrev pub applied : Function → ℕ → ℕ → Bool → Option Computed
applied (functions.Copy size) a b c = Some (valued size a c)
applied functions.Clear a b c = Some (valued Long 0 c)
applied functions.Negate a b c = Some (valued Long (neg32 a) (not (neg32 a == 0)))
applied functions.Complement a b c = Some (valued Long (com32 a) c)
applied (functions.SignExtend size) a b c = Some (valued Long (extended size a) false)
applied (functions.Truncate size) a b c = Some (valued size (low size a) false)
applied functions.Add a b c = Some (valued Long (add32 a b) (nat_le (2 ^ 32) (a + b)))
applied functions.Subtract a b c = Some (valued Long (sub32 b a) (nat_lt b a))
applied functions.Multiply a b c = Some (valued Long (mul32 a b) false)
applied functions.Divide a b c = quotient (div32 b a)
applied functions.Increment a b c = Some (valued Long (add32 a 1) (nat_le (2 ^ 32) (a + 1)))
applied functions.Decrement a b c = Some (valued Long (sub32 a 1) (a == 0))
applied functions.BitSet a b c = Some (valued Long (or32 a b) c)
applied functions.BitClear a b c = Some (valued Long (and32 b (com32 a)) c)
applied functions.ExclusiveOr a b c = Some (valued Long (xor32 a b) c)
applied functions.BitTest a b c = Some (valued Long (and32 a b) c)
applied functions.Shift a b c = Some (valued Long (ash32 a b) false)
applied (functions.Compare size) a b c = Some (only_conditions (holds relations.Lt (extended size a) (extended size b)) (a == b)
    (nat_lt a b))
applied (functions.CompareWithZero size) a b c = Some (only_conditions (is_negative_at size a) (a == 0) false)

-- whether a branch is taken
abbrev pub passes : Test → Conditions → Bool
passes test.Always c = true
passes test.Equal c = c.is_zero
passes test.NotEqual c = not c.is_zero
passes test.Less c = c.negative
passes test.LessOrEqual c = c.negative || c.is_zero
passes test.Greater c = not (c.negative || c.is_zero)
passes test.GreaterOrEqual c = not c.negative
passes test.LessUnsigned c = c.carry
passes test.LessOrEqualUnsigned c = c.carry || c.is_zero
passes test.GreaterUnsigned c = not (c.carry || c.is_zero)
passes test.GreaterOrEqualUnsigned c = not c.carry
