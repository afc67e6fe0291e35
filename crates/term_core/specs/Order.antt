-- The order of terms: by their forms, and then by their parts, the first part first. Constants are ordered without sign.
use Rattle.std.specs.Prelude.{ℕ, Bool}
use Rattle.std.specs.Ordering.{nat_cmp, ordering_then, is_eq}
use Rattle.std.specs.declared.cmp.Ordering.{Ordering}
use Rattle.gg_base.specs.Sizes.{bytes_of}
use Rattle.term_core.specs.Operators.{unary_rank, binary_rank}
use Rattle.term_core.specs.Shape.{Shape, Constant, Symbol, LastResult, Memory, Unary, Binary}

-- where a form stands among the forms; operators are ordered among themselves
abbrev pub rank : Shape → ℕ
rank (Constant n) = 0
rank (Symbol i) = 1
rank LastResult = 2
rank (Memory size a) = 3
rank (Unary op t) = 4
rank (Binary op a b) = 5

abbrev pub order : Shape → Shape → Ordering
order (Constant n) (Constant m) = nat_cmp n m
order (Symbol i) (Symbol j) = nat_cmp i j
order (Memory z a) (Memory y b) = ordering_then (nat_cmp (bytes_of z) (bytes_of y)) (order a b)
order (Unary o t) (Unary p u) = ordering_then (nat_cmp (unary_rank o) (unary_rank p)) (order t u)
order (Binary o a b) (Binary p c d) = ordering_then (nat_cmp (binary_rank o) (binary_rank p)) (ordering_then (order a c) (order b d))
order s t = nat_cmp (rank s) (rank t)

-- two terms are the same where neither goes before the other
abbrev pub same_term : Shape → Shape → Bool
same_term s t = is_eq (order s t)
