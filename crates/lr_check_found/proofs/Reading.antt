-- Elements of lists that grow.
use Rattle.std.proofs.Common.{◌≡◌, ℕ, List, [], ◌∷◌, ◌++◌, Some, Contains, true, length, get_or, slice_get, sym, ap, ◌∙◌}
use Rattle.std.specs.Prelude.{nat_lt}
use Rattle.std.proofs.lemmas.Bool.{ltb-true}
use Rattle.std.proofs.lemmas.Option.{slice_get-get_or}
use Rattle.gg_base.proofs.Facts.{slice_last}

pub slice_at_last : {X : Type 0} (xs ys : List X) (x : X) (n : ℕ) → ys ≡ xs ++ x ∷ [] → n ≡ length xs → slice_get ys n ≡ Some x
slice_at_last xs ys x n e is = ap (λ k. slice_get ys k) is ∙ (ap (λ l. slice_get l (length xs)) e ∙ slice_last xs x)

pub contains_at : {X : Type 0} (xs : List X) (x : X) → Contains xs x → (k : ℕ) × (slice_get xs k ≡ Some x)
contains_at xs x c = (c.0, slice_get-get_or xs c.0 x c.1 ∙ ap Some c.2)

-- what a look at a place of a list gives
pub looked_at : {X : Type 0} (xs ys : List X) (k : ℕ) (x : X) → xs ≡ ys → true ≡ nat_lt k (length xs) → x ≡ get_or xs k x → slice_get ys k ≡ Some x
looked_at xs ys k x same lt is =
    ap (λ l. slice_get l k) (sym same) ∙ (slice_get-get_or xs k x (ltb-true k (length xs) (sym lt)) ∙ ap Some (sym is))
