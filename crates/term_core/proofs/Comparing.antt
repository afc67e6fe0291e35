-- The order of terms is that of their nodes.
use Rattle.std.proofs.Common.{◌≡◌, ℕ, List, [], ◌∷◌, ◌++◌, ◌-◌, take, sym, ap, ◌∙◌, refl}
use Rattle.std.specs.Borrow.{Bor}
use mathlib.Core.List.{append_assoc}
use Rattle.std.specs.Ordering.{nat_cmp, ordering_then}
use Rattle.std.specs.declared.cmp.Ordering.{Ordering}
use Rattle.std.specs.declared.cmp.Ordering.TheVariants.{Less, Equal, Greater}
use Rattle.gg_base.specs.Sizes.{bytes_of}
use Rattle.term_core.specs.Operators.{unary_rank, binary_rank}
use Rattle.term_core.specs.declared.node.Node.{Node}
use Rattle.term_core.specs.Shape.{Shape, Constant, Symbol, LastResult, Memory, Unary, Binary}
use Rattle.term_core.specs.Order.{order}
use Rattle.term_core.specs.declared.term.Term.{Term}
use Rattle.term_core.specs.Nodes.{nodes_of, waiting}
use Rattle.term_core.specs.NodeOrder.{nodes_order}

then_assoc : (o p q : Ordering) → ordering_then (ordering_then o p) q ≡ ordering_then o (ordering_then p q)
then_assoc Less p q = refl
then_assoc Equal p q = refl
then_assoc Greater p q = refl

pub order_by_nodes : (s t : Shape) (ns ms : List Node) → nodes_order (nodes_of s ++ ns) (nodes_of t ++ ms) ≡ ordering_then (order s t) (nodes_order ns ms)
order_by_nodes (Constant n) (Constant k) ns ms = refl
order_by_nodes (Symbol i) (Symbol j) ns ms = refl
order_by_nodes LastResult LastResult ns ms = refl
order_by_nodes (Memory z a) (Memory y b) ns ms =
    ap (ordering_then (nat_cmp (bytes_of z) (bytes_of y))) (order_by_nodes a b ns ms) ∙ sym (then_assoc _ (order a b) (nodes_order ns ms))
order_by_nodes (Unary o t) (Unary p u) ns ms =
    ap (ordering_then (nat_cmp (unary_rank o) (unary_rank p))) (order_by_nodes t u ns ms) ∙ sym (then_assoc _ (order t u) (nodes_order ns ms))
order_by_nodes (Binary o a b) (Binary p c d) ns ms =
    let parts : nodes_order ((nodes_of a ++ nodes_of b) ++ ns) ((nodes_of c ++ nodes_of d) ++ ms) ≡ ordering_then (ordering_then (order a c) (order b d)) (nodes_order ns ms) =
    simp append_assoc (order_by_nodes a c (nodes_of b ++ ns) (nodes_of d ++ ms) ∙ ap (ordering_then (order a c)) (order_by_nodes b d ns ms)
    ∙ sym (then_assoc (order a c) (order b d) (nodes_order ns ms))) in
    ap (ordering_then (nat_cmp (binary_rank o) (binary_rank p))) parts ∙ sym (then_assoc _ (ordering_then (order a c) (order b d)) (nodes_order ns ms))
order_by_nodes s t ns ms = refl

right_empty : (ns : List Node) → nodes_order ns [] ≡ Equal
right_empty [] = refl
right_empty (n ∷ ns) = refl

-- what nothing was popped from is empty
nothing_popped : {X : Type 0} (all rest : List X) (k : ℕ) → k ≡ 0 → all ≡ rest ++ [] → rest ≡ take (k - 1) all → all ≡ []
nothing_popped all rest k e f g =
    let none : rest ≡ [] = g ∙ ap (λ n. take (n - 1) all) e in
    f ∙ ap (λ x. x ++ []) none

-- where the right side has no nodes left
pub right_ends : (all all' rest : List (Bor Term)) (k : ℕ) (o : Ordering) → nodes_order (waiting all) (waiting all') ≡ o → k ≡ 0 → all' ≡ rest ++ [] → rest ≡ take (k - 1) all' → Equal ≡ o
right_ends all all' rest k o h e f g =
    sym (right_empty (waiting all)) ∙ ap (λ x. nodes_order (waiting all) (waiting x)) (sym (nothing_popped all' rest k e f g)) ∙ h
