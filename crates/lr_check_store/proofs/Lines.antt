-- Lines of different lists, and elements of lists that are set.
use Rattle.std.proofs.Common.{◌≡◌, ◌⊎◌, ℕ, zero, suc, List, [], ◌∷◌, ◌++◌, Some, Contains, slice_get, slice_set, ⊎_elim, inl, inr, refl, sym, ap, ◌∙◌, arith}
use Rattle.std.specs.Prelude.{Option, None, IfSome}
use Rattle.std.proofs.lemmas.Option.{same_Some, slice_get_within, get_or_from_slice_get}
use Rattle.gg_base.proofs.Facts.{slice_cases, slice_set_same, slice_set_other}
use Rattle.lr_tables.proofs.Members.{Contains-In, In-slice_get}
use Rattle.lr_check_rows.specs.declared.rows.Line.{Line}
use Rattle.lr_check_store.specs.Store.{AreApart}

pub contains_at : {X : Type 0} (xs : List X) (n : ℕ) (x : X) → slice_get xs n ≡ Some x → Contains xs x
contains_at xs n x e = (n, slice_get_within xs n x e, get_or_from_slice_get xs n x x e)

-- where it stands
pub stands : {X : Type 0} (xs : List X) (x : X) → Contains xs x → (n : ℕ) × (slice_get xs n ≡ Some x)
stands xs x c = In-slice_get x xs (Contains-In x xs c)

pub apart_more : (xs : List Line) (y : Line) → AreApart xs → ((l : Line) → Contains xs l → l.list ≡ y.list → ⊥) → AreApart (xs ++ y ∷ [])
apart_more xs y apart new i j l m at at' same = ⊎_elim
    (λ h. ⊎_elim (λ g. apart i j l m h g same) (λ g. absurd (new l (contains_at xs i l h) (same ∙ ap (λ (z : Line). z.list) g.1))) (slice_cases xs y j m at'))
    (λ h. ⊎_elim (λ g. absurd (new m (contains_at xs j m g) (sym same ∙ ap (λ (z : Line). z.list) h.1))) (λ g. h.0 ∙ sym g.0) (slice_cases xs y j m at'))
    (slice_cases xs y i l at)

-- what holds of a result
pub some_if : {X : Type 0} (o : Option X) (P Q : X → Type 0) → ((x : X) → P x → Q x) → IfSome o P → IfSome o Q
some_if None P Q f h = tt
some_if (Some x) P Q f h = f x h

pub same_or_not : (i n : ℕ) → (i ≡ n) ⊎ (i ≡ n → ⊥)
same_or_not zero zero = inl refl
same_or_not zero (suc n) = inr (λ e. absurd (omega (arith, e)))
same_or_not (suc i) zero = inr (λ e. absurd (omega (arith, e)))
same_or_not (suc i) (suc n) = ⊎_elim (λ e. inl (ap suc e)) (λ ne. inr (λ e. ne (omega (arith, e)))) (same_or_not i n)

-- an element of a list that was set is the new one, there, or stood there before
pub set_cases : {X : Type 0} (xs : List X) (n : ℕ) (x z : X) (i : ℕ) (y : X) → slice_get xs n ≡ Some z → slice_get (slice_set xs n x) i ≡ Some y
    → ((i ≡ n) × (y ≡ x)) ⊎ (slice_get xs i ≡ Some y)
set_cases xs n x z i y there at = ⊎_elim
    (λ e. inl (e, same_Some y x (sym at ∙ (ap (λ k. slice_get (slice_set xs n x) k) e ∙ slice_set_same xs n x (slice_get_within xs n z there)))))
    (λ ne. inr (sym (slice_set_other xs n x i ne) ∙ at))
    (same_or_not i n)
