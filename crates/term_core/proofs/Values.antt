-- What terms are worth is below 2^32, and each equation keeps it.
use Rattle.std.proofs.Common.{◌≡◌, ℕ, ◌-◌, ◌%◌, ◌^◌, ◌<◌, true, List, sym, ap, ◌∙◌, refl, arith}
use Rattle.std.proofs.lemmas.Nat.{and_comm, or_comm, xor_comm, or_lt, xor_lt}
use Rattle.std.specs.Int.Bits.{or_zero_l, xor_zero_l}
use Rattle.gg_base.specs.declared.size.Size.{Size}
use Rattle.gg_base.specs.declared.size.Size.TheVariants.{Byte, Word, Long}
use Rattle.term_core.specs.declared.facts.Fact.{Fact}
use Rattle.term_core.specs.declared.operator.UnaryOp.{UnaryOp}
use Rattle.term_core.specs.declared.operator.UnaryOp.TheVariants.{Neg, Com, Zx8, Zx16, Sx8, Sx16}
use Rattle.term_core.specs.declared.operator.BinaryOp.{BinaryOp}
use Rattle.term_core.specs.declared.operator.BinaryOp.TheVariants.{Add, Sub, Mul, Div, And, Or, Xor, Ash}
use Rattle.term_core.specs.Operators.{unary, binary}
use Rattle.term_core.specs.Shape.{Shape, Constant, Symbol, LastResult, Memory, Unary, Binary}
use Rattle.term_core.specs.NormUnary.{unary_constant}
use Rattle.term_core.specs.NormBinary.{binary_constant}
use Rattle.term_core.specs.Value.{State, memory_at, value, Respects}
use Rattle.term_core.specs.Equations.{Equation, is_commutative, constant, constants, difference, exchanged, neg_twice, com_twice, add_zero, or_zero, xor_zero, mul_one, and_ones}
use Rattle.term_core.specs.Equations.{add_constants, zx8_of_zx8, zx8_of_sx8, zx16_of_zx16, zx16_of_sx16, sx8_of_sx8, sx8_of_zx8, sx16_of_sx16, sx16_of_zx16, zx8_of_byte}
use Rattle.term_core.specs.Equations.{zx8_of_memory, zx16_of_word, zx16_of_memory, shift_by_constant, shift_by_zx8, shift_by_sx8, count_of_count, spelled_alike, Reaches, stays, by}
use Rattle.term_core.specs.Equations.{chain, in_memory, in_unary, in_binary}
use Rattle.gg_base.proofs.Words

unary_small : (op : UnaryOp) (n : ℕ) → unary op n < 2 ^ 32
unary_small Neg n = omega arith
unary_small Com n = omega arith
unary_small Zx8 n = Words.zext8_small n
unary_small Zx16 n = Words.zext16_small n
unary_small Sx8 n = Words.sext8_small n
unary_small Sx16 n = Words.sext16_small n

binary_small : (op : BinaryOp) (m n : ℕ) → m < 2 ^ 32 → n < 2 ^ 32 → binary op m n < 2 ^ 32
binary_small Add m n hm hn = omega arith
binary_small Sub m n hm hn = omega arith
binary_small Mul m n hm hn = omega arith
binary_small Div m n hm hn = Words.div_small m n hm
binary_small And m n hm hn = Words.and_small m n hm
binary_small Or m n hm hn = or_lt 32 m n hm hn
binary_small Xor m n hm hn = xor_lt 32 m n hm hn
binary_small Ash m n hm hn = Words.ash_small m n hn

low_small : (n : ℕ) → n % 2 ^ 32 < 2 ^ 32
low_small n = omega arith

pub low_same : (n : ℕ) → n < 2 ^ 32 → n % 2 ^ 32 ≡ n
low_same n h = omega arith

memory_small : (m : State) (size : Size) (a : ℕ) → memory_at m size a < 2 ^ 32
memory_small m Byte a = omega arith
memory_small m Word a = omega arith
memory_small m Long a = omega arith

byte_small : (m : State) (a : ℕ) → memory_at m Byte a < 2 ^ 8
byte_small m a = omega arith

word_small : (m : State) (a : ℕ) → memory_at m Word a < 2 ^ 16
word_small m a = omega arith

turned : (op : BinaryOp) (a b : ℕ) → is_commutative op ≡ true → binary op a b ≡ binary op b a
turned Add a b h = Words.add_turned a b
turned Sub a b h = cc
turned Mul a b h = Words.mul_turned a b
turned Div a b h = cc
turned And a b h = and_comm a b
turned Or a b h = or_comm a b
turned Xor a b h = xor_comm a b
turned Ash a b h = cc

module _ (m : State) where
  pub small : (s : Shape) → value m s < 2 ^ 32
  small (Constant n) = low_small n
  small (Symbol i) = low_small (m.symbol i)
  small LastResult = low_small m.last_result
  small (Memory size a) = memory_small m size (value m a)
  small (Unary op t) = unary_small op (value m t)
  small (Binary op a b) = binary_small op (value m a) (value m b) (small a) (small b)

  -- each equation, by its name

  constant_keeps : (op : UnaryOp) (n : ℕ) → value m (Unary op (Constant n)) ≡ value m (unary_constant op n)
  constant_keeps op n = sym (low_same (unary op (n % 2 ^ 32)) (unary_small op (n % 2 ^ 32)))

  constants_keep : (op : BinaryOp) (c d : ℕ) → value m (Binary op (Constant c) (Constant d)) ≡ value m (binary_constant op c d)
  constants_keep op c d = sym (low_same (binary op (c % 2 ^ 32) (d % 2 ^ 32)) (binary_small op (c % 2 ^ 32) (d % 2 ^ 32) (low_small c) (low_small d)))

  difference_keeps : (a b : Shape) → value m (Binary Sub a b) ≡ value m (Binary Add a (Unary Neg b))
  difference_keeps a b = Words.sub_is (value m a) (value m b)

  exchanged_keeps : (op : BinaryOp) (a b : Shape) → is_commutative op ≡ true → value m (Binary op a b) ≡ value m (Binary op b a)
  exchanged_keeps op a b h = turned op (value m a) (value m b) h

  neg_twice_keeps : (t : Shape) → value m (Unary Neg (Unary Neg t)) ≡ value m t
  neg_twice_keeps t = Words.neg_twice (value m t) (small t)

  com_twice_keeps : (t : Shape) → value m (Unary Com (Unary Com t)) ≡ value m t
  com_twice_keeps t = Words.com_twice (value m t) (small t)

  add_zero_keeps : (t : Shape) → value m (Binary Add (Constant 0) t) ≡ value m t
  add_zero_keeps t = Words.add_zero (value m t) (small t)

  or_zero_keeps : (t : Shape) → value m (Binary Or (Constant 0) t) ≡ value m t
  or_zero_keeps t = or_zero_l (value m t)

  xor_zero_keeps : (t : Shape) → value m (Binary Xor (Constant 0) t) ≡ value m t
  xor_zero_keeps t = xor_zero_l (value m t)

  mul_one_keeps : (t : Shape) → value m (Binary Mul (Constant 1) t) ≡ value m t
  mul_one_keeps t = Words.mul_one (value m t) (small t)

  and_ones_keeps : (t : Shape) → value m (Binary And (Constant (2 ^ 32 - 1)) t) ≡ value m t
  and_ones_keeps t = Words.and_ones (value m t) (small t)

  add_constants_keep : (c d : ℕ) (t : Shape) → value m (Binary Add (Constant c) (Binary Add (Constant d) t)) ≡ value m (Binary Add (binary_constant Add c d) t)
  add_constants_keep c d t = Words.add_again (c % 2 ^ 32) (d % 2 ^ 32) (value m t) ∙ ap (λ n. binary Add n (value m t)) (constants_keep Add c d)

  zx8_of_byte_keeps : (i : ℕ) → m.symbol i < 2 ^ 8 → value m (Unary Zx8 (Symbol i)) ≡ value m (Symbol i)
  zx8_of_byte_keeps i h = omega arith

  zx8_of_memory_keeps : (a : Shape) → value m (Unary Zx8 (Memory Byte a)) ≡ value m (Memory Byte a)
  zx8_of_memory_keeps a = omega (arith, byte_small m (value m a))

  zx16_of_word_keeps : (i : ℕ) → m.symbol i < 2 ^ 16 → value m (Unary Zx16 (Symbol i)) ≡ value m (Symbol i)
  zx16_of_word_keeps i h = omega arith

  zx16_of_memory_keeps : (a : Shape) → value m (Unary Zx16 (Memory Word a)) ≡ value m (Memory Word a)
  zx16_of_memory_keeps a = omega (arith, word_small m (value m a))

  power_low : (k : ℕ) → k < 32 → 2 ^ k % 2 ^ 32 ≡ 2 ^ k
  power_low k h = low_same (2 ^ k) (Words.power_small k h)

  shift_by_constant_keeps : (k : ℕ) (t : Shape) → k < 32 → value m (Binary Ash (Constant k) t) ≡ value m (Binary Mul (Constant (2 ^ k)) t)
  shift_by_constant_keeps k t h =
      ap (λ n. binary Ash n (value m t)) (low_same k (omega arith)) ∙ Words.ash_count k (value m t) h
      ∙ ap (λ n. binary Mul n (value m t)) (sym (power_low k h))

  shift_by_zx8_keeps : (c t : Shape) → value m (Binary Ash (Unary Zx8 c) t) ≡ value m (Binary Ash c t)
  shift_by_zx8_keeps c t = Words.ash_zext8 (value m c) (value m t)

  shift_by_sx8_keeps : (c t : Shape) → value m (Binary Ash (Unary Sx8 c) t) ≡ value m (Binary Ash c t)
  shift_by_sx8_keeps c t = Words.ash_sext8 (value m c) (value m t)

  count_of_count_keeps : (i : ℕ) → m.symbol i < 32 → value m (Binary And (Constant 31) (Symbol i)) ≡ value m (Symbol i)
  count_of_count_keeps i h = Words.and_count (value m (Symbol i)) (omega arith)

  module _ (facts : List Fact) (respects : Respects facts m) where
    pub equation_keeps : {s t : Shape} → Equation facts s t → value m s ≡ value m t
    equation_keeps (constant op n) = constant_keeps op n
    equation_keeps (constants op c d h) = constants_keep op c d
    equation_keeps (difference a b) = difference_keeps a b
    equation_keeps (exchanged op a b h g) = exchanged_keeps op a b h
    equation_keeps (neg_twice t) = neg_twice_keeps t
    equation_keeps (com_twice t) = com_twice_keeps t
    equation_keeps (add_zero t) = add_zero_keeps t
    equation_keeps (or_zero t) = or_zero_keeps t
    equation_keeps (xor_zero t) = xor_zero_keeps t
    equation_keeps (mul_one t) = mul_one_keeps t
    equation_keeps (and_ones t) = and_ones_keeps t
    equation_keeps (add_constants c d t) = add_constants_keep c d t
    equation_keeps (zx8_of_zx8 t) = Words.zext8_zext8 (value m t)
    equation_keeps (zx8_of_sx8 t) = Words.zext8_sext8 (value m t)
    equation_keeps (zx16_of_zx16 t) = Words.zext16_zext16 (value m t)
    equation_keeps (zx16_of_sx16 t) = Words.zext16_sext16 (value m t)
    equation_keeps (sx8_of_sx8 t) = Words.sext8_sext8 (value m t)
    equation_keeps (sx8_of_zx8 t) = Words.sext8_zext8 (value m t)
    equation_keeps (sx16_of_sx16 t) = Words.sext16_sext16 (value m t)
    equation_keeps (sx16_of_zx16 t) = Words.sext16_zext16 (value m t)
    equation_keeps (zx8_of_byte i h) = zx8_of_byte_keeps i (respects.bytes i h)
    equation_keeps (zx8_of_memory a) = zx8_of_memory_keeps a
    equation_keeps (zx16_of_word i h) = zx16_of_word_keeps i (respects.words i h)
    equation_keeps (zx16_of_memory a) = zx16_of_memory_keeps a
    equation_keeps (shift_by_constant k t h) = shift_by_constant_keeps k t h
    equation_keeps (shift_by_zx8 c t) = shift_by_zx8_keeps c t
    equation_keeps (shift_by_sx8 c t) = shift_by_sx8_keeps c t
    equation_keeps (count_of_count i h) = count_of_count_keeps i (respects.counts i h)
    equation_keeps (spelled_alike i) = ap (λ n. n % 2 ^ 32) (sym (respects.alike i))

    pub reaching_keeps : {s t : Shape} → Reaches facts s t → value m s ≡ value m t
    reaching_keeps (stays s) = refl
    reaching_keeps (by e) = equation_keeps e
    reaching_keeps (chain p q) = reaching_keeps p ∙ reaching_keeps q
    reaching_keeps (in_memory size p) = ap (memory_at m size) (reaching_keeps p)
    reaching_keeps (in_unary op p) = ap (unary op) (reaching_keeps p)
    reaching_keeps (in_binary op {a} {b} {c} {d} p q) = ap (λ n. binary op n (value m b)) (reaching_keeps p) ∙ ap (binary op (value m c)) (reaching_keeps q)
