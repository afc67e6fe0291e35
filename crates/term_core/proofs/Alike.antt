-- The test of sameness tells it.
use Rattle.std.proofs.Common.{◌≡◌, ℕ, true, ap, ◌∙◌, refl, subst, arith}
use Rattle.std.specs.Prelude.{◌↔◌, IsTrue}
use Rattle.std.specs.Ordering.{nat_cmp, ordering_then, is_eq}
use Rattle.std.specs.declared.cmp.Ordering.{Ordering}
use Rattle.std.specs.declared.cmp.Ordering.TheVariants.{Less, Equal, Greater}
use Rattle.std.proofs.lemmas.Bool.Decides.{nat_tests}
use Rattle.gg_base.specs.Sizes.{bytes_of}
use Rattle.term_core.specs.Operators.{unary_rank, binary_rank}
use Rattle.term_core.specs.Shape.{Shape, Constant, Symbol, LastResult, Memory, Unary, Binary}
use Rattle.term_core.specs.Order.{order, same_term}
use Rattle.term_core.proofs.Ordered.{order_same}

number_itself : (n : ℕ) → nat_cmp n n ≡ Equal
number_itself n = grind (arith, nat_tests)

then_itself : (o p : Ordering) → o ≡ Equal → p ≡ Equal → ordering_then o p ≡ Equal
then_itself o p e f = ap (λ x. ordering_then x p) e ∙ f

order_itself : (s : Shape) → order s s ≡ Equal
order_itself (Constant n) = number_itself n
order_itself (Symbol i) = number_itself i
order_itself LastResult = refl
order_itself (Memory z a) = then_itself _ _ (number_itself (bytes_of z)) (order_itself a)
order_itself (Unary o t) = then_itself _ _ (number_itself (unary_rank o)) (order_itself t)
order_itself (Binary o a b) = then_itself _ _ (number_itself (binary_rank o)) (then_itself _ _ (order_itself a) (order_itself b))

equal_of : (o : Ordering) → is_eq o ≡ true → o ≡ Equal
equal_of Less e = cc
equal_of Equal e = refl
equal_of Greater e = cc

pub term_same : (s t : Shape) → same_term s t ≡ true → s ≡ t
term_same s t e = order_same s t (equal_of (order s t) e)

pub term_itself : (s : Shape) → same_term s s ≡ true
term_itself s = ap is_eq (order_itself s)

pub same_term_tells : (s t : Shape) → IsTrue (same_term s t) ↔ (s ≡ t)
same_term_tells s t = (term_same s t, λ e. subst (λ x. same_term s x ≡ true) e (term_itself s))
