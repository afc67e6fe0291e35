-- The order of terms tells them apart, and is turned with them.
use Rattle.std.proofs.Common.{◌≡◌, ℕ, sym, ap, ◌∙◌, refl, arith}
use Rattle.std.specs.Ordering.{nat_cmp, ordering_then, ordering_reverse}
use Rattle.std.specs.declared.cmp.Ordering.{Ordering}
use Rattle.std.specs.declared.cmp.Ordering.TheVariants.{Less, Equal, Greater}
use Rattle.std.specs.Cmp.{nat_cmp_total}
use Rattle.std.proofs.lemmas.Cmp.{ranked}
use Rattle.gg_base.specs.declared.size.Size.{Size}
use Rattle.gg_base.specs.declared.size.Size.TheVariants.{Byte, Word, Long}
use Rattle.gg_base.specs.Sizes.{bytes_of}
use Rattle.term_core.specs.declared.operator.UnaryOp.{UnaryOp}
use Rattle.term_core.specs.declared.operator.UnaryOp.TheVariants.{Neg, Com, Zx8, Zx16, Sx8, Sx16}
use Rattle.term_core.specs.declared.operator.BinaryOp.{BinaryOp}
use Rattle.term_core.specs.declared.operator.BinaryOp.TheVariants.{Add, Sub, Mul, Div, And, Or, Xor, Ash}
use Rattle.term_core.specs.Operators.{unary_rank, binary_rank}
use Rattle.term_core.specs.Shape.{Shape, Constant, Symbol, LastResult, Memory, Unary, Binary}
use Rattle.term_core.specs.Order.{order}

number_same : (n k : ℕ) → nat_cmp n k ≡ Equal → n ≡ k
number_same n k e = ranked n k Equal (sym e)

then_equal : (o p : Ordering) → ordering_then o p ≡ Equal → (o ≡ Equal) × (p ≡ Equal)
then_equal Less p e = absurd (cc)
then_equal Equal p e = (refl, e)
then_equal Greater p e = absurd (cc)

pub size_same : (z y : Size) → bytes_of z ≡ bytes_of y → z ≡ y
size_same Byte Byte e = refl
size_same Word Word e = refl
size_same Long Long e = refl
size_same z y e = absurd (omega arith)

unary_same : (o p : UnaryOp) → unary_rank o ≡ unary_rank p → o ≡ p
unary_same Neg Neg e = refl
unary_same Com Com e = refl
unary_same Zx8 Zx8 e = refl
unary_same Zx16 Zx16 e = refl
unary_same Sx8 Sx8 e = refl
unary_same Sx16 Sx16 e = refl
unary_same o p e = absurd (omega arith)

binary_same : (o p : BinaryOp) → binary_rank o ≡ binary_rank p → o ≡ p
binary_same Add Add e = refl
binary_same Sub Sub e = refl
binary_same Mul Mul e = refl
binary_same Div Div e = refl
binary_same And And e = refl
binary_same Or Or e = refl
binary_same Xor Xor e = refl
binary_same Ash Ash e = refl
binary_same o p e = absurd (omega arith)

pub order_same : (s t : Shape) → order s t ≡ Equal → s ≡ t
order_same (Constant n) (Constant k) e = ap Constant (number_same n k e)
order_same (Symbol i) (Symbol j) e = ap Symbol (number_same i j e)
order_same LastResult LastResult e = refl
order_same (Memory z a) (Memory y b) e =
    let h = then_equal (nat_cmp (bytes_of z) (bytes_of y)) (order a b) e in
    ap (λ x. Memory x a) (size_same z y (number_same _ _ h.0)) ∙ ap (Memory y) (order_same a b h.1)
order_same (Unary o t) (Unary p u) e =
    let h = then_equal (nat_cmp (unary_rank o) (unary_rank p)) (order t u) e in
    ap (λ x. Unary x t) (unary_same o p (number_same _ _ h.0)) ∙ ap (Unary p) (order_same t u h.1)
order_same (Binary o a b) (Binary p c d) e =
    let h = then_equal (nat_cmp (binary_rank o) (binary_rank p)) (ordering_then (order a c) (order b d)) e in
    let k = then_equal (order a c) (order b d) h.1 in
    ap (λ x. Binary x a b) (binary_same o p (number_same _ _ h.0)) ∙ ap (λ x. Binary p x b) (order_same a c k.0) ∙ ap (Binary p c) (order_same b d k.1)
order_same s t e = absurd (cc)

then_turned : (o p q r : Ordering) → o ≡ ordering_reverse p → q ≡ ordering_reverse r → ordering_then o q ≡ ordering_reverse (ordering_then p r)
then_turned o Less q r e f = ap (λ x. ordering_then x q) e
then_turned o Equal q r e f = ap (λ x. ordering_then x q) e ∙ f
then_turned o Greater q r e f = ap (λ x. ordering_then x q) e

number_turned : (n k : ℕ) → nat_cmp n k ≡ ordering_reverse (nat_cmp k n)
number_turned n k = nat_cmp_total.antisymm n k

pub order_turned : (s t : Shape) → order s t ≡ ordering_reverse (order t s)
order_turned (Constant n) (Constant k) = number_turned n k
order_turned (Symbol i) (Symbol j) = number_turned i j
order_turned LastResult LastResult = refl
order_turned (Memory z a) (Memory y b) = then_turned _ _ _ _ (number_turned (bytes_of z) (bytes_of y)) (order_turned a b)
order_turned (Unary o t) (Unary p u) = then_turned _ _ _ _ (number_turned (unary_rank o) (unary_rank p)) (order_turned t u)
order_turned (Binary o a b) (Binary p c d) =
    then_turned _ _ _ _ (number_turned (binary_rank o) (binary_rank p)) (then_turned _ _ _ _ (order_turned a c) (order_turned b d))
order_turned s t = refl
