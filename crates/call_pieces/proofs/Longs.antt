-- One longword is stored in a stack; and elements of lists.
use Rattle.std.proofs.Common.{◌≡◌, ◌⊎◌, inl, inr, ⊎_elim, ℕ, zero, suc, ◌+◌, ◌-◌, ◌^◌, ◌<◌, ◌≤◌, List, [], ◌∷◌, length, Some, refl, ap, ◌∙◌, arith, drop}
use Rattle.std.specs.Prelude.{slice_get, slice_set}
use Rattle.std.proofs.lemmas.Bool.{cases_lt}
use Rattle.std.proofs.lemmas.Option.{same_Some}
use Rattle.vax_machine_lists.proofs.Longwords.{number-with, number-above, number-below}
use Rattle.call_pieces.specs.Piece.{long_at, SameFrom}
use Rattle.call_pieces.specs.Laws.{with_long}

pub stored_other : (stack : List ℕ) (x a v : ℕ) → 2139095040 ≤ x → x + 4 ≤ 2139095040 + length stack → 2139095040 ≤ a → (x + 4 ≤ a) ⊎ (a + 4 ≤ x)
    → long_at (with_long stack x v) a ≡ long_at stack a
stored_other stack x a v low high over (inl above) = number-above stack (x - 2139095040) (a - 2139095040) v (omega arith) (omega arith)
stored_other stack x a v low high over (inr below) = number-below stack (x - 2139095040) (a - 2139095040) v (omega arith) (omega arith)

pub stored_there : (stack : List ℕ) (x v : ℕ) → 2139095040 ≤ x → x + 4 ≤ 2139095040 + length stack → v < 2 ^ 32 → long_at (with_long stack x v) x ≡ v
stored_there stack x v low high fits = number-with stack (x - 2139095040) v (omega arith) fits

pub stored_below : (stack : List ℕ) (x v low : ℕ) → 2139095040 ≤ x → x + 4 ≤ 2139095040 + length stack → x + 4 ≤ low → SameFrom low stack (with_long stack x v)
stored_below stack x v low bottom high le = λ a from. stored_other stack x a v bottom high (omega (arith, from)) (inl (omega (arith, from)))

-- what stands in a list with one element set
pub set_get : {A : Type 0} (xs : List A) (i j : ℕ) (v w : A) → slice_get (slice_set xs i v) j ≡ Some w → ((j ≡ i) × (v ≡ w)) ⊎ ((j ≡ i → ⊥) × (slice_get xs j ≡ Some w))
set_get [] i zero v w e = absurd cc
set_get [] i (suc j) v w e = absurd cc
set_get (x ∷ xs) zero zero v w e = inl (refl, same_Some v w e)
set_get (x ∷ xs) zero (suc j) v w e = inr ((λ q. omega (arith, q)), e)
set_get (x ∷ xs) (suc i) zero v w e = inr ((λ q. omega (arith, q)), e)
set_get (x ∷ xs) (suc i) (suc j) v w e = ⊎_elim (λ h. inl (ap suc h.0, h.1)) (λ h. inr ((λ q. h.0 (omega (arith, q))), h.1)) (set_get xs i j v w e)

pub differ : (j k : ℕ) → (j ≡ k → ⊥) → (j < k) ⊎ (k < j)
differ j k ne = ⊎_elim (λ lt. inl lt) (λ le. inr (omega (arith, ne))) (cases_lt j k)

pub get_drop : {A : Type 0} (xs : List A) (n i : ℕ) (v : A) → slice_get (drop n xs) i ≡ Some v → slice_get xs (n + i) ≡ Some v
get_drop xs zero i v e = let z : 0 + i ≡ i = omega arith in ap (λ (k : ℕ). slice_get xs k) z ∙ e
get_drop [] (suc n) zero v e = absurd cc
get_drop [] (suc n) (suc i) v e = absurd cc
get_drop (x ∷ xs) (suc n) i v e = let z : suc n + i ≡ suc (n + i) = omega arith in ap (λ (k : ℕ). slice_get (x ∷ xs) k) z ∙ get_drop xs n i v e
