-- No equation changes any part of a normal term.
use Rattle.std.proofs.Common.{◌≡◌, ◌<◌, ℕ, ◌+◌, ◌-◌, ◌%◌, ◌^◌, ◌==◌, Bool, true, false, List, ap, ◌∙◌, refl, sym, subst, arith}
use Rattle.std.specs.Prelude.{nat_lt, if◌then◌else◌}
use Rattle.std.proofs.lemmas.Bool.{lt-ltb}
use Rattle.std.specs.Ordering.{ordering_reverse}
use Rattle.std.specs.declared.cmp.Ordering.{Ordering}
use Rattle.std.specs.declared.cmp.Ordering.TheVariants.{Less, Equal, Greater}
use Rattle.gg_base.specs.declared.size.Size.TheVariants.{Byte, Word}
use Rattle.gg_base.proofs.Facts.{if_true, if_false}
use Rattle.term_core.specs.declared.facts.Fact.{Fact}
use Rattle.term_core.specs.Facts.{has_size, is_count}
use Rattle.term_core.specs.declared.operator.UnaryOp.{UnaryOp}
use Rattle.term_core.specs.declared.operator.UnaryOp.TheVariants.{Neg, Com, Zx8, Zx16, Sx8, Sx16}
use Rattle.term_core.specs.declared.operator.BinaryOp.{BinaryOp}
use Rattle.term_core.specs.declared.operator.BinaryOp.TheVariants.{Add, Sub, Mul, Div, And, Or, Xor, Ash}
use Rattle.term_core.specs.Operators.{binary}
use Rattle.term_core.specs.Shape.{Shape, Constant, Symbol, LastResult, Memory, Unary, Binary, size_of}
use Rattle.term_core.specs.Order.{order}
use Rattle.term_core.specs.NormBinary.{in_order, add_constant, add_ordered, make_add, make_sub, mul_ordered, make_mul}
use Rattle.term_core.specs.NormBinary.{make_div, masks_nothing, and_ordered, make_and, or_ordered, make_or}
use Rattle.term_core.specs.NormBinary.{xor_ordered, make_xor, make_ash, make_binary}
use Rattle.term_core.specs.NormUnary.{make_neg, make_zx8, make_zx16, make_unary}
use Rattle.term_core.specs.Norm.{norm}
use Rattle.term_core.specs.Normal.{IsNormal, AreSettled}
use Rattle.term_core.specs.Equations.{Equation, is_commutative, is_quotient_by_zero, constant, constants, difference, exchanged, neg_twice, com_twice, add_zero, or_zero, xor_zero}
use Rattle.term_core.specs.Equations.{mul_one, and_ones, add_constants, zx8_of_zx8, zx8_of_sx8, zx16_of_zx16, zx16_of_sx16, sx8_of_sx8, sx8_of_zx8, sx16_of_sx16, sx16_of_zx16}
use Rattle.term_core.specs.Equations.{zx8_of_byte, zx8_of_memory, zx16_of_word, zx16_of_memory, shift_by_constant, shift_by_zx8, shift_by_sx8, count_of_count, spelled_alike}
use Rattle.term_core.specs.Equations.{Reaches, stays, by, chain, in_memory, in_unary, in_binary}
use Rattle.term_core.proofs.Ordered.{order_turned}
use Rattle.term_core.proofs.Settled.{norm_normal}
use Rattle.term_core_settled.proofs.Sizes.{no_larger, neg_size, zx8_size, zx16_size, sx8_size, sx16_size, Added, part, added, add_size, ash_size}

-- the first part of what has two
abbrev left : Shape → Shape
left (Binary op a b) = a
left s = s

-- a choice is what it chooses
by_choice : {P : Type 0} (b : Bool) (r s t : Shape) → (if b then r else s) ≡ t → (r ≡ t → P) → (s ≡ t → P) → P
by_choice true r s t e h k = h e
by_choice false r s t e h k = k e

turned_back : (o : Ordering) → o ≡ ordering_reverse o → o ≡ Greater → ⊥
turned_back Less e g = cc
turned_back Equal e g = cc
turned_back Greater e g = cc

-- no term goes before itself
not_greater : (s : Shape) → order s s ≡ Greater → ⊥
not_greater s g = turned_back (order s s) (order_turned s s) g

-- two constants are one
add_both : (o : Ordering) (m n : ℕ) → in_order add_ordered o (Constant m) (Constant n) ≡ Binary Add (Constant m) (Constant n) → ⊥
add_both Less m n e = cc
add_both Equal m n e = cc
add_both Greater m n e = cc

mul_both : (o : Ordering) (m n : ℕ) → in_order mul_ordered o (Constant m) (Constant n) ≡ Binary Mul (Constant m) (Constant n) → ⊥
mul_both Less m n e = cc
mul_both Equal m n e = cc
mul_both Greater m n e = cc

and_both : (facts : List Fact) (o : Ordering) (m n : ℕ) → in_order (and_ordered facts) o (Constant m) (Constant n) ≡ Binary And (Constant m) (Constant n) → ⊥
and_both facts Less m n e = cc
and_both facts Equal m n e = cc
and_both facts Greater m n e = cc

or_both : (o : Ordering) (m n : ℕ) → in_order or_ordered o (Constant m) (Constant n) ≡ Binary Or (Constant m) (Constant n) → ⊥
or_both Less m n e = cc
or_both Equal m n e = cc
or_both Greater m n e = cc

xor_both : (o : Ordering) (m n : ℕ) → in_order xor_ordered o (Constant m) (Constant n) ≡ Binary Xor (Constant m) (Constant n) → ⊥
xor_both Less m n e = cc
xor_both Equal m n e = cc
xor_both Greater m n e = cc

div_both : (m n : ℕ) → (n == 0) ≡ false → make_div (Constant m) (Constant n) ≡ Binary Div (Constant m) (Constant n) → ⊥
div_both m n z e = one (sym (if_false (n == 0) _ _ z) ∙ e) where
  one : Constant (binary Div (m % 2 ^ 32) (n % 2 ^ 32)) ≡ Binary Div (Constant m) (Constant n) → ⊥
  one e = cc

-- Parts the other way round: what is made is the term only where the parts are the same.
add_turned : (b a : Shape) → add_ordered b a ≡ Binary Add a b → a ≡ b
add_turned (Constant c) a e = front a e where
  front : (a : Shape) → add_constant c a ≡ Binary Add a (Constant c) → a ≡ Constant c
  front (Constant d) e = absurd (cc)
  front (Binary Add (Constant d) t) e =
      by_choice (c == 0) _ _ _ e (λ f. absurd (no_larger _ _ f (omega arith)))
      (λ f. absurd (no_larger _ _ f (omega (arith, add_size t (binary Add (c % 2 ^ 32) (d % 2 ^ 32))))))
  front a e = by_choice (c == 0) _ _ _ e (λ f. absurd (no_larger _ _ f (omega arith))) (λ f. sym (ap left f))
add_turned b a e = sym (ap left e)

mul_turned : (b a : Shape) → mul_ordered b a ≡ Binary Mul a b → a ≡ b
mul_turned (Constant c) (Constant d) e = absurd (cc)
mul_turned (Constant c) a e = by_choice (c == 1) _ _ _ e (λ f. absurd (no_larger _ _ f (omega arith))) (λ f. sym (ap left f))
mul_turned b a e = sym (ap left e)

and_turned : (facts : List Fact) (b a : Shape) → and_ordered facts b a ≡ Binary And a b → a ≡ b
and_turned facts (Constant c) (Constant d) e = absurd (cc)
and_turned facts (Constant c) a e = by_choice (masks_nothing facts c a) _ _ _ e (λ f. absurd (no_larger _ _ f (omega arith))) (λ f. sym (ap left f))
and_turned facts b a e = sym (ap left e)

or_turned : (b a : Shape) → or_ordered b a ≡ Binary Or a b → a ≡ b
or_turned (Constant c) (Constant d) e = absurd (cc)
or_turned (Constant c) a e = by_choice (c == 0) _ _ _ e (λ f. absurd (no_larger _ _ f (omega arith))) (λ f. sym (ap left f))
or_turned b a e = sym (ap left e)

xor_turned : (b a : Shape) → xor_ordered b a ≡ Binary Xor a b → a ≡ b
xor_turned (Constant c) (Constant d) e = absurd (cc)
xor_turned (Constant c) a e = by_choice (c == 0) _ _ _ e (λ f. absurd (no_larger _ _ f (omega arith))) (λ f. sym (ap left f))
xor_turned b a e = sym (ap left e)

turned : (f : Shape → Shape → Shape) (op : BinaryOp) (a b : Shape) → (f b a ≡ Binary op a b → a ≡ b) → order a b ≡ Greater → in_order f (order a b) a b ≡ Binary op a b → ⊥
turned f op a b law g e =
    let same : a ≡ b = law (sym (ap (λ o. in_order f o a b) g) ∙ e) in
    not_greater b (subst (λ x. order x b ≡ Greater) same g)

turned_by : (facts : List Fact) (op : BinaryOp) (a b : Shape) → is_commutative op ≡ true → order a b ≡ Greater → make_binary facts op a b ≡ Binary op a b → ⊥
turned_by facts Add a b c g e = turned add_ordered Add a b (add_turned b a) g e
turned_by facts Mul a b c g e = turned mul_ordered Mul a b (mul_turned b a) g e
turned_by facts And a b c g e = turned (and_ordered facts) And a b (and_turned facts b a) g e
turned_by facts Or a b c g e = turned or_ordered Or a b (or_turned b a) g e
turned_by facts Xor a b c g e = turned xor_ordered Xor a b (xor_turned b a) g e
turned_by facts Sub a b c g e = cc
turned_by facts Div a b c g e = cc
turned_by facts Ash a b c g e = cc

-- What a constant is added to is no difference.
no_difference : (t a b : Shape) (c : ℕ) → add_constant c t ≡ Binary Sub a b → size_of t < size_of (Binary Sub a b) → ⊥
no_difference t a b c e less = refuted (subst (Added t) e (added t c)) where
  refuted : Added t (Binary Sub a b) → ⊥
  refuted (part s h) = omega (arith, h, less)

ordered_sum : (x y a b : Shape) → add_ordered x y ≡ Binary Sub a b → size_of y < size_of (Binary Sub a b) → ⊥
ordered_sum (Constant c) y a b e less = no_difference y a b c e less
ordered_sum x y a b e less = cc

either_sum : (o : Ordering) (x y a b : Shape) → in_order add_ordered o x y ≡ Binary Sub a b → size_of x < size_of (Binary Sub a b) → size_of y < size_of (Binary Sub a b) → ⊥
either_sum Less x y a b e h k = ordered_sum x y a b e k
either_sum Equal x y a b e h k = ordered_sum x y a b e k
either_sum Greater x y a b e h k = ordered_sum y x a b e h

a_sum : (a b : Shape) → make_add a (make_neg b) ≡ Binary Sub a b → ⊥
a_sum a b e = either_sum (order a (make_neg b)) a (make_neg b) a b e (positive a (size_of b)) (small a) where
  one : (s : Shape) → 0 < size_of s
  one (Constant n) = omega arith
  one (Symbol i) = omega arith
  one LastResult = omega arith
  one (Memory size t) = omega arith
  one (Unary op t) = omega arith
  one (Binary op s t) = omega arith

  positive : (s : Shape) (n : ℕ) → size_of s < 1 + size_of s + n
  positive s n = omega arith

  small : (s : Shape) → size_of (make_neg b) < 1 + size_of s + size_of b
  small s = omega (arith, neg_size b, one s)

no_sub : (a b : Shape) → make_sub a b ≡ Binary Sub a b → ⊥
no_sub (Constant c) (Constant d) e = cc
no_sub a b e = a_sum a b e

-- What an operator does nothing with is left out.
no_add_zero : (t : Shape) → make_add (Constant 0) t ≡ Binary Add (Constant 0) t → ⊥
no_add_zero (Constant m) e = add_both (order (Constant 0) (Constant m)) 0 m e
no_add_zero (Binary Add (Constant d) u) e = no_larger _ _ e (omega arith)
no_add_zero t e = no_larger _ _ e (omega arith)

no_or_zero : (t : Shape) → make_or (Constant 0) t ≡ Binary Or (Constant 0) t → ⊥
no_or_zero (Constant m) e = or_both (order (Constant 0) (Constant m)) 0 m e
no_or_zero t e = no_larger _ _ e (omega arith)

no_xor_zero : (t : Shape) → make_xor (Constant 0) t ≡ Binary Xor (Constant 0) t → ⊥
no_xor_zero (Constant m) e = xor_both (order (Constant 0) (Constant m)) 0 m e
no_xor_zero t e = no_larger _ _ e (omega arith)

no_mul_one : (t : Shape) → make_mul (Constant 1) t ≡ Binary Mul (Constant 1) t → ⊥
no_mul_one (Constant m) e = mul_both (order (Constant 1) (Constant m)) 1 m e
no_mul_one t e = no_larger _ _ e (omega arith)

no_and_ones : (facts : List Fact) (t : Shape) → make_and facts (Constant (2 ^ 32 - 1)) t ≡ Binary And (Constant (2 ^ 32 - 1)) t → ⊥
no_and_ones facts (Constant m) e = and_both facts (order (Constant (2 ^ 32 - 1)) (Constant m)) (2 ^ 32 - 1) m e
no_and_ones facts t e = no_larger _ _ e (omega arith)

no_count : (facts : List Fact) (i : ℕ) → is_count facts i ≡ true → make_and facts (Constant 31) (Symbol i) ≡ Binary And (Constant 31) (Symbol i) → ⊥
no_count facts i h e = kept (sym (if_true (is_count facts i) _ _ h) ∙ e) where
  kept : Symbol i ≡ Binary And (Constant 31) (Symbol i) → ⊥
  kept e = cc

-- two constants of a sum are one
no_two_added : (c d : ℕ) (t : Shape) → make_add (Constant c) (Binary Add (Constant d) t) ≡ Binary Add (Constant c) (Binary Add (Constant d) t) → ⊥
no_two_added c d t e =
    by_choice (c == 0) _ _ _ e (λ f. no_larger _ _ f (omega arith))
    (λ f. no_larger _ _ f (omega (arith, add_size t (binary Add (c % 2 ^ 32) (d % 2 ^ 32)))))

-- a shift by a constant is a product
no_shift : (k : ℕ) (t : Shape) → k < 32 → make_ash (Constant k) t ≡ Binary Ash (Constant k) t → ⊥
no_shift k (Constant d) h e = cc
no_shift k t h e =
    product t (sym (if_true (nat_lt k 32) _ _ (lt-ltb k 32 h)) ∙ e)
  where
    at_least : (s : Shape) → 1 < 2 + size_of s
    at_least s = omega arith

    ordered : (a b : Shape) → mul_ordered a b ≡ Binary Ash (Constant k) t → size_of b < 2 + size_of t → ⊥
    ordered (Constant c) (Constant d) e less = cc
    ordered (Constant c) b e less = by_choice (c == 1) _ _ _ e (λ f. let g : size_of b ≡ 2 + size_of t = ap size_of f in omega (arith, g, less)) (λ f. cc)
    ordered a b e less = cc

    either : (o : Ordering) (u : Shape) → in_order mul_ordered o (Constant (2 ^ k)) u ≡ Binary Ash (Constant k) t → size_of u < 2 + size_of t → ⊥
    either Less u e less = ordered (Constant (2 ^ k)) u e less
    either Equal u e less = ordered (Constant (2 ^ k)) u e less
    either Greater u e less = ordered u (Constant (2 ^ k)) e (at_least t)

    product : (u : Shape) → make_mul (Constant (2 ^ k)) t ≡ Binary Ash (Constant k) t → ⊥
    product u e = either (order (Constant (2 ^ k)) t) t e (omega arith)

no_byte : (facts : List Fact) (i : ℕ) → has_size facts i Byte ≡ true → make_zx8 facts (Symbol i) ≡ Unary Zx8 (Symbol i) → ⊥
no_byte facts i h e = kept (sym (if_true (has_size facts i Byte) _ _ h) ∙ e) where
  kept : Symbol i ≡ Unary Zx8 (Symbol i) → ⊥
  kept e = cc

no_word : (facts : List Fact) (i : ℕ) → has_size facts i Word ≡ true → make_zx16 facts (Symbol i) ≡ Unary Zx16 (Symbol i) → ⊥
no_word facts i h e = kept (sym (if_true (has_size facts i Word) _ _ h) ∙ e) where
  kept : Symbol i ≡ Unary Zx16 (Symbol i) → ⊥
  kept e = cc

-- an operator's constant is a constant
no_constant : (facts : List Fact) (op : UnaryOp) (n : ℕ) → make_unary facts op (Constant n) ≡ Unary op (Constant n) → ⊥
no_constant facts Neg n e = cc
no_constant facts Com n e = cc
no_constant facts Zx8 n e = cc
no_constant facts Zx16 n e = cc
no_constant facts Sx8 n e = cc
no_constant facts Sx16 n e = cc

no_constants : (facts : List Fact) (op : BinaryOp) (m n : ℕ) → is_quotient_by_zero op n ≡ false → make_binary facts op (Constant m) (Constant n) ≡ Binary op (Constant m) (Constant n) → ⊥
no_constants facts Add m n z e = add_both (order (Constant m) (Constant n)) m n e
no_constants facts Sub m n z e = cc
no_constants facts Mul m n z e = mul_both (order (Constant m) (Constant n)) m n e
no_constants facts Div m n z e = div_both m n z e
no_constants facts And m n z e = and_both facts (order (Constant m) (Constant n)) m n e
no_constants facts Or m n z e = or_both (order (Constant m) (Constant n)) m n e
no_constants facts Xor m n z e = xor_both (order (Constant m) (Constant n)) m n e
no_constants facts Ash m n z e = cc

module _ (facts : List Fact) where
  settled : {s t : Shape} → Equation facts s t → IsNormal facts s → t ≡ s
  settled (constant op n) h = absurd (no_constant facts op n h.1)
  settled (constants op m n z) h = absurd (no_constants facts op m n z h.2)
  settled (difference a b) h = absurd (no_sub a b h.2)
  settled (exchanged op a b c g) h = absurd (turned_by facts op a b c g h.2)
  settled (neg_twice t) h = absurd (no_larger _ _ h.1 (omega arith))
  settled (com_twice t) h = absurd (no_larger _ _ h.1 (omega arith))
  settled (add_zero t) h = absurd (no_add_zero t h.2)
  settled (or_zero t) h = absurd (no_or_zero t h.2)
  settled (xor_zero t) h = absurd (no_xor_zero t h.2)
  settled (mul_one t) h = absurd (no_mul_one t h.2)
  settled (and_ones t) h = absurd (no_and_ones facts t h.2)
  settled (add_constants c d t) h = absurd (no_two_added c d t h.2)
  settled (zx8_of_zx8 t) h = absurd (no_larger _ _ h.1 (omega (arith, zx8_size facts t)))
  settled (zx8_of_sx8 t) h = absurd (no_larger _ _ h.1 (omega (arith, zx8_size facts t)))
  settled (zx16_of_zx16 t) h = absurd (no_larger _ _ h.1 (omega (arith, zx16_size facts t)))
  settled (zx16_of_sx16 t) h = absurd (no_larger _ _ h.1 (omega (arith, zx16_size facts t)))
  settled (sx8_of_sx8 t) h = absurd (no_larger _ _ h.1 (omega (arith, sx8_size t)))
  settled (sx8_of_zx8 t) h = absurd (no_larger _ _ h.1 (omega (arith, sx8_size t)))
  settled (sx16_of_sx16 t) h = absurd (no_larger _ _ h.1 (omega (arith, sx16_size t)))
  settled (sx16_of_zx16 t) h = absurd (no_larger _ _ h.1 (omega (arith, sx16_size t)))
  settled (zx8_of_byte i b) h = absurd (no_byte facts i b h.1)
  settled (zx8_of_memory a) h = absurd (cc)
  settled (zx16_of_word i b) h = absurd (no_word facts i b h.1)
  settled (zx16_of_memory a) h = absurd (cc)
  settled (shift_by_constant k t less) h = absurd (no_shift k t less h.2)
  settled (shift_by_zx8 c t) h = absurd (no_larger _ _ h.2 (omega (arith, ash_size c t)))
  settled (shift_by_sx8 c t) h = absurd (no_larger _ _ h.2 (omega (arith, ash_size c t)))
  settled (count_of_count i c) h = absurd (no_count facts i c h.2)
  settled (spelled_alike i) h = ap Symbol h

  all_settled : {s t : Shape} → Reaches facts s t → IsNormal facts s → t ≡ s
  all_settled (stays s) h = refl
  all_settled (by e) h = settled e h
  all_settled (chain {s = s} p q) h = let first = all_settled p h in all_settled q (subst (IsNormal facts) (sym first) h) ∙ first
  all_settled (in_memory size r) h = ap (Memory size) (all_settled r h)
  all_settled (in_unary op r) h = ap (Unary op) (all_settled r h.0)
  all_settled (in_binary op {a = a} {d = d} p q) h = ap (λ x. Binary op x d) (all_settled p h.0) ∙ ap (Binary op a) (all_settled q h.1)

pub normal_is_settled : (facts : List Fact) (s t : Shape) → IsNormal facts s → Reaches facts s t → t ≡ s
normal_is_settled facts s t h r = all_settled facts r h

pub norm_is_settled : (facts : List Fact) (s t : Shape) → AreSettled facts → Reaches facts (norm facts s) t → t ≡ norm facts s
norm_is_settled facts s t settled r = all_settled facts r (norm_normal facts settled s)
