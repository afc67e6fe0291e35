-- What an instruction that computes or pushes gives, on terms, and where it puts it.
use Rattle.std.specs.Prelude.{ℕ, List, Option, Some, None}
use Rattle.gg_base.specs.declared.size.Size.{Size}
use Rattle.gg_base.specs.declared.size.Size.TheVariants.{Byte, Word, Long}
use Rattle.term_core.specs.declared.operator.UnaryOp.TheVariants.{Neg, Com, Sx8, Sx16}
use Rattle.term_core.specs.declared.operator.BinaryOp.TheVariants.{Add, Sub, Mul, Div, And, Or, Xor, Ash}
use Rattle.term_core.specs.Shape.{Shape, Constant, Unary, Binary}
use Rattle.vax_machine_lists.specs.vax_core.specs.declared.register.Reg.TheVariants.{Sp}
use Rattle.vax_machine_lists.specs.vax_core.specs.declared.operand.Operand.{Operand}
use Rattle.vax_machine_lists.specs.vax_core.specs.declared.op.OperandKind.{OperandKind}
use Rattle.vax_machine_lists.specs.vax_core.specs.declared.code.AreaItem.{AreaItem}
use Rattle.vax_machine_lists.specs.vax_machine.specs.declared.function.Function.{Function}
use Rattle.vax_machine_lists.specs.vax_machine.specs.declared.function.Function.TheVariants as functions
use Rattle.vax_pairs.specs.Events.{Stores, Divides}
use Rattle.vax_pairs.specs.TermStates.{Signs, Tests, Compares, Carry, Made, TermState}
use Rattle.vax_pairs.specs.Trees.{Tree}
use Rattle.vax_pairs.specs.TermOperands.{Number, Register, Place, Goal, before, in_register, set_register, truncated, operands}

-- a number at a size as a longword
abbrev pub extended : Size → Shape → Shape
extended Byte t = Unary Sx8 t
extended Word t = Unary Sx16 t
extended Long t = t

abbrev pub of_value : Size → Shape → Shape × Signs
of_value size t = (t, Tests size t)

-- what a function gives, with N and Z
abbrev pub given : Function → Shape → Shape → Shape × Signs
given (functions.Copy size) a b = of_value size a
given functions.Clear a b = of_value Long (Constant 0)
given functions.Negate a b = of_value Long (Unary Neg a)
given functions.Complement a b = of_value Long (Unary Com a)
given (functions.SignExtend size) a b = of_value Long (extended size a)
given (functions.Truncate size) a b = of_value size (truncated size a)
given functions.Add a b = of_value Long (Binary Add a b)
given functions.Subtract a b = of_value Long (Binary Sub b a)
given functions.Multiply a b = of_value Long (Binary Mul a b)
given functions.Divide a b = of_value Long (Binary Div b a)
given functions.Increment a b = of_value Long (Binary Add a (Constant 1))
given functions.Decrement a b = of_value Long (Binary Sub a (Constant 1))
given functions.BitSet a b = of_value Long (Binary Or a b)
given functions.BitClear a b = of_value Long (Binary And b (Unary Com a))
given functions.ExclusiveOr a b = of_value Long (Binary Xor a b)
given functions.BitTest a b = of_value Long (Binary And a b)
given functions.Shift a b = of_value Long (Binary Ash a b)
given (functions.Compare size) a b = (Constant 0, Compares size a b)
given (functions.CompareWithZero size) a b = (Constant 0, Tests size a)

-- moves and operations on bits leave C as it is
abbrev pub carry_behind : Function → Shape → Shape → Carry → Carry
carry_behind (functions.Copy size) a b old = old
carry_behind functions.Clear a b old = old
carry_behind functions.Complement a b old = old
carry_behind functions.BitSet a b old = old
carry_behind functions.BitClear a b old = old
carry_behind functions.ExclusiveOr a b old = old
carry_behind functions.BitTest a b old = old
carry_behind f a b old = Made f a b

abbrev pub coded_behind : TermState → Function → Shape → Shape → Signs → TermState
coded_behind s f a b signs = record s { signs = signs; carry = carry_behind f a b s.carry }

-- a result at its destination: memory, nothing, or a longword in a register
abbrev pub put : TermState → Goal → Shape → (TermState → Option Tree) → Option Tree
put s None t rest = rest s
put s (Some (Number u, size)) t rest = None
put s (Some (Register r, Long)) t rest = set_register s r t rest
put s (Some (Register r, Byte)) t rest = None
put s (Some (Register r, Word)) t rest = None
put s (Some (Place a, size)) t rest = before (Stores size a t) (rest s)

-- a divisor may be zero
abbrev pub guarded : Function → Shape → Option Tree → Option Tree
guarded functions.Divide a t = before (Divides a) t
guarded f a t = t

abbrev pub finish : TermState → Function → Shape → Shape → Goal → (TermState → Option Tree) → Option Tree
finish s f a b d rest = guarded f a (put (coded_behind s f a b (given f a b).1) d (given f a b).0 rest)

-- an instruction that computes
abbrev pub compute : List AreaItem → ℕ → TermState → Function → List OperandKind → List Operand → (ℕ → TermState → Option Tree)
    → Option Tree
compute layout n s f ks os rest = operands layout n s ks os (λ k z a b d. finish z f a b d (λ t. rest k t))

-- ---- pushes

-- the place of a push
abbrev pub pushed_at : TermState → Shape
pushed_at s = Binary Sub (in_register s Sp) (Constant 4)

-- a longword is pushed, which N and Z are of
abbrev pub push_number : TermState → Shape → (TermState → Option Tree) → Option Tree
push_number s t rest =
    set_register s Sp (pushed_at s) (λ z. before (Stores Long (pushed_at s) t) (rest (record z { signs = Tests Long t })))

-- an instruction that pushes
abbrev pub push : List AreaItem → ℕ → TermState → List OperandKind → List Operand → (ℕ → TermState → Option Tree) → Option Tree
push layout n s ks os rest = operands layout n s ks os (λ k z a b d. push_number z a (λ t. rest k t))
