-- Terms with one normal form agree.
use Rattle.std.proofs.Common.{◌≡◌, ℕ, zero, suc, ◌<◌, List, [], ◌∷◌, sym, ap, ◌∙◌, arith}
use Rattle.std.specs.Prelude.{◌^◌, slice_index}
use Rattle.term_core.specs.Shape.{Shape, Constant, Symbol, LastResult, Memory, Unary, Binary}
use Rattle.term_core.specs.Operators.{unary, binary}
use Rattle.term_core.specs.Value.{State, value}
use Rattle.term_core.specs.Norm.{norm}
use Rattle.term_core.proofs.Keeping.{norm_alone_keeps}
use Rattle.vax_machine_lists.specs.Sound.{AllBelow}
use Rattle.vax_pairs.specs.Events.{worth}
use Rattle.vax_pairs.specs.SameTrees.{Agree}
use Rattle.vax_pairs.specs.Scopes.{IsPlain}

state_of : List ℕ → State
state_of env = record { symbol = λ i. slice_index env i; last_result = 0; byte = λ a. 0 }

index_small : (env : List ℕ) (i : ℕ) → AllBelow (2 ^ 32) env → slice_index env i < 2 ^ 32
index_small [] i h = omega arith
index_small (x ∷ env) zero h = h.0
index_small (x ∷ env) (suc i) h = index_small env i h.1

worth_is : (env : List ℕ) → AllBelow (2 ^ 32) env → (t : Shape) → IsPlain t → value (state_of env) t ≡ worth env t
unfolding state_of
worth_is env h (Constant n) p = omega (arith, p)
worth_is env h (Symbol i) p = (let e = index_small env i h in omega (arith, e))
worth_is env h LastResult p = absurd p
worth_is env h (Memory size a) p = absurd p
worth_is env h (Unary op t) p = ap (unary op) (worth_is env h t p)
worth_is env h (Binary op a b) p = ap (λ (x : ℕ). binary op x (value (state_of env) b)) (worth_is env h a p.0) ∙ ap (λ (x : ℕ). binary op (worth env a) x) (worth_is env h b p.1)

pub same_norms_agree : (s t : Shape) → IsPlain s → IsPlain t → norm [] s ≡ norm [] t → Agree s t
same_norms_agree s t p q e env h =
    sym (worth_is env h s p) ∙ sym (norm_alone_keeps (state_of env) s) ∙ ap (value (state_of env)) e ∙ norm_alone_keeps (state_of env) t ∙ worth_is env h t q
