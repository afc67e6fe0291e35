-- A term as plain data: a term of the program holds pointers to its parts, and two terms are the same where these are.
use Rattle.std.specs.Prelude.{ℕ, ◌+◌}
use Rattle.gg_base.specs.declared.size.Size.{Size}
use Rattle.term_core.specs.declared.operator.UnaryOp.{UnaryOp}
use Rattle.term_core.specs.declared.operator.BinaryOp.{BinaryOp}
use Rattle.term_core.specs.declared.term.Term.{Term}
use Rattle.term_core.specs.declared.term.Term.TheVariants.{K, V, Res, Mem', Unary', Binary'}

pub data Shape : Type 0 where
  Constant : (n : ℕ) → Shape
  Symbol : (i : ℕ) → Shape
  LastResult : Shape
  Memory : (size : Size) (address : Shape) → Shape
  Unary : (op : UnaryOp) (t : Shape) → Shape
  Binary : (op : BinaryOp) (a b : Shape) → Shape

abbrev pub shape_of : Term → Shape
shape_of (K n) = Constant n
shape_of (V i) = Symbol i
shape_of Res = LastResult
shape_of (Mem' size p t) = Memory size (shape_of t)
shape_of (Unary' op p t) = Unary op (shape_of t)
shape_of (Binary' op p a q b) = Binary op (shape_of a) (shape_of b)

-- how many constants, symbols and operators a term has
abbrev pub size_of : Shape → ℕ
size_of (Constant n) = 1
size_of (Symbol i) = 1
size_of LastResult = 1
size_of (Memory size a) = 1 + size_of a
size_of (Unary op t) = 1 + size_of t
size_of (Binary op a b) = 1 + size_of a + size_of b
