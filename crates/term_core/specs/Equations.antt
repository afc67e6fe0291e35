-- The equations of terms, each read from left to right.
use Rattle.std.specs.Prelude.{◌≡◌, ℕ, ◌-◌, ◌^◌, ◌<◌, ◌==◌, Bool, true, false, List}
use Rattle.std.specs.declared.cmp.Ordering.TheVariants.{Greater}
use Rattle.gg_base.specs.declared.size.Size.{Size}
use Rattle.gg_base.specs.declared.size.Size.TheVariants.{Byte, Word}
use Rattle.term_core.specs.declared.facts.Fact.{Fact}
use Rattle.term_core.specs.Facts.{has_size, is_count, same_as}
use Rattle.term_core.specs.declared.operator.UnaryOp.{UnaryOp}
use Rattle.term_core.specs.declared.operator.UnaryOp.TheVariants.{Neg, Com, Zx8, Zx16, Sx8, Sx16}
use Rattle.term_core.specs.declared.operator.BinaryOp.{BinaryOp}
use Rattle.term_core.specs.declared.operator.BinaryOp.TheVariants.{Add, Sub, Mul, Div, And, Or, Xor, Ash}
use Rattle.term_core.specs.Shape.{Shape, Constant, Symbol, Memory, Unary, Binary}
use Rattle.term_core.specs.Order.{order}
use Rattle.term_core.specs.NormUnary.{unary_constant}
use Rattle.term_core.specs.NormBinary.{binary_constant}

abbrev pub is_commutative : BinaryOp → Bool
is_commutative Add = true
is_commutative Mul = true
is_commutative And = true
is_commutative Or = true
is_commutative Xor = true
is_commutative op = false

abbrev pub is_quotient_by_zero : BinaryOp → ℕ → Bool
is_quotient_by_zero Div n = n == 0
is_quotient_by_zero op n = false

pub data Equation (facts : List Fact) : Shape → Shape → Type 0 where
  constant : (op : UnaryOp) (n : ℕ) → Equation facts (Unary op (Constant n)) (unary_constant op n)
  constants : (op : BinaryOp) (m n : ℕ) → is_quotient_by_zero op n ≡ false
      → Equation facts (Binary op (Constant m) (Constant n)) (binary_constant op m n)
  difference : (a b : Shape) → Equation facts (Binary Sub a b) (Binary Add a (Unary Neg b))
  exchanged : (op : BinaryOp) (a b : Shape) → is_commutative op ≡ true → order a b ≡ Greater
      → Equation facts (Binary op a b) (Binary op b a)
  neg_twice : (t : Shape) → Equation facts (Unary Neg (Unary Neg t)) t
  com_twice : (t : Shape) → Equation facts (Unary Com (Unary Com t)) t
  add_zero : (t : Shape) → Equation facts (Binary Add (Constant 0) t) t
  or_zero : (t : Shape) → Equation facts (Binary Or (Constant 0) t) t
  xor_zero : (t : Shape) → Equation facts (Binary Xor (Constant 0) t) t
  mul_one : (t : Shape) → Equation facts (Binary Mul (Constant 1) t) t
  and_ones : (t : Shape) → Equation facts (Binary And (Constant (2 ^ 32 - 1)) t) t
  add_constants : (c d : ℕ) (t : Shape) → Equation facts (Binary Add (Constant c) (Binary Add (Constant d) t))
      (Binary Add (binary_constant Add c d) t)
  zx8_of_zx8 : (t : Shape) → Equation facts (Unary Zx8 (Unary Zx8 t)) (Unary Zx8 t)
  zx8_of_sx8 : (t : Shape) → Equation facts (Unary Zx8 (Unary Sx8 t)) (Unary Zx8 t)
  zx16_of_zx16 : (t : Shape) → Equation facts (Unary Zx16 (Unary Zx16 t)) (Unary Zx16 t)
  zx16_of_sx16 : (t : Shape) → Equation facts (Unary Zx16 (Unary Sx16 t)) (Unary Zx16 t)
  sx8_of_sx8 : (t : Shape) → Equation facts (Unary Sx8 (Unary Sx8 t)) (Unary Sx8 t)
  sx8_of_zx8 : (t : Shape) → Equation facts (Unary Sx8 (Unary Zx8 t)) (Unary Sx8 t)
  sx16_of_sx16 : (t : Shape) → Equation facts (Unary Sx16 (Unary Sx16 t)) (Unary Sx16 t)
  sx16_of_zx16 : (t : Shape) → Equation facts (Unary Sx16 (Unary Zx16 t)) (Unary Sx16 t)
  zx8_of_byte : (i : ℕ) → has_size facts i Byte ≡ true → Equation facts (Unary Zx8 (Symbol i)) (Symbol i)
  zx8_of_memory : (a : Shape) → Equation facts (Unary Zx8 (Memory Byte a)) (Memory Byte a)
  zx16_of_word : (i : ℕ) → has_size facts i Word ≡ true → Equation facts (Unary Zx16 (Symbol i)) (Symbol i)
  zx16_of_memory : (a : Shape) → Equation facts (Unary Zx16 (Memory Word a)) (Memory Word a)
  shift_by_constant : (k : ℕ) (t : Shape) → k < 32 → Equation facts (Binary Ash (Constant k) t) (Binary Mul (Constant (2 ^ k)) t)
  shift_by_zx8 : (c t : Shape) → Equation facts (Binary Ash (Unary Zx8 c) t) (Binary Ash c t)
  shift_by_sx8 : (c t : Shape) → Equation facts (Binary Ash (Unary Sx8 c) t) (Binary Ash c t)
  count_of_count : (i : ℕ) → is_count facts i ≡ true → Equation facts (Binary And (Constant 31) (Symbol i)) (Symbol i)
  spelled_alike : (i : ℕ) → Equation facts (Symbol i) (Symbol (same_as facts i))

-- one term is reached from another by equations, used at any part and one after the other
pub data Reaches (facts : List Fact) : Shape → Shape → Type 0 where
  stays : (s : Shape) → Reaches facts s s
  by : {s t : Shape} → Equation facts s t → Reaches facts s t
  chain : {s t u : Shape} → Reaches facts s t → Reaches facts t u → Reaches facts s u
  in_memory : (size : Size) {a b : Shape} → Reaches facts a b → Reaches facts (Memory size a) (Memory size b)
  in_unary : (op : UnaryOp) {s t : Shape} → Reaches facts s t → Reaches facts (Unary op s) (Unary op t)
  in_binary : (op : BinaryOp) {a b c d : Shape} → Reaches facts a c → Reaches facts b d → Reaches facts (Binary op a b) (Binary op c d)
