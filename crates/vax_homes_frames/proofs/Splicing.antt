-- The front of one list before the rest of another.
use Rattle.std.proofs.Common.{◌≡◌, ℕ, zero, suc, ◌<◌, ◌≤◌, List, [], ◌∷◌, length, drop, refl, ap, ◌∙◌, arith}
use Rattle.std.specs.Prelude.{slice_index}
use Rattle.vax_states.specs.vax_machine_lists.specs.Sound.{AllBelow}

-- the first k numbers of xs, and behind them the rest of ys; the lists are equally long
pub splice : ℕ → List ℕ → List ℕ → List ℕ
splice zero xs ys = ys
splice (suc k) [] ys = ys
splice (suc k) (x ∷ xs) [] = []
splice (suc k) (x ∷ xs) (y ∷ ys) = x ∷ splice k xs ys

pub length-splice : (k : ℕ) (xs ys : List ℕ) → length (splice k xs ys) ≡ length ys
unfolding splice
length-splice zero xs ys = refl
length-splice (suc k) [] ys = refl
length-splice (suc k) (x ∷ xs) [] = refl
length-splice (suc k) (x ∷ xs) (y ∷ ys) = ap suc (length-splice k xs ys)

pub below_splice : (bound k : ℕ) (xs ys : List ℕ) → AllBelow bound xs → AllBelow bound ys → AllBelow bound (splice k xs ys)
unfolding splice
below_splice bound zero xs ys h g = g
below_splice bound (suc k) [] ys h g = g
below_splice bound (suc k) (x ∷ xs) [] h g = tt
below_splice bound (suc k) (x ∷ xs) (y ∷ ys) h g = (h.0, below_splice bound k xs ys h.1 g.1)

pub splice_front : (k : ℕ) (xs ys : List ℕ) (i : ℕ) → length xs ≡ length ys → i < k → slice_index (splice k xs ys) i ≡ slice_index xs i
unfolding splice
splice_front zero xs ys i e lt = absurd (omega (arith, lt))
splice_front (suc k) [] [] i e lt = refl
splice_front (suc k) [] (y ∷ ys) i e lt = absurd (omega (arith, e))
splice_front (suc k) (x ∷ xs) [] i e lt = absurd (omega (arith, e))
splice_front (suc k) (x ∷ xs) (y ∷ ys) zero e lt = refl
splice_front (suc k) (x ∷ xs) (y ∷ ys) (suc i) e lt = splice_front k xs ys i (omega (arith, e)) (omega (arith, lt))

pub splice_rest : (k : ℕ) (xs ys : List ℕ) (i : ℕ) → length xs ≡ length ys → k ≤ i → slice_index (splice k xs ys) i ≡ slice_index ys i
unfolding splice
splice_rest zero xs ys i e le = refl
splice_rest (suc k) [] ys i e le = refl
splice_rest (suc k) (x ∷ xs) [] i e le = absurd (omega (arith, e))
splice_rest (suc k) (x ∷ xs) (y ∷ ys) zero e le = absurd (omega (arith, le))
splice_rest (suc k) (x ∷ xs) (y ∷ ys) (suc i) e le = splice_rest k xs ys i (omega (arith, e)) (omega (arith, le))

pub drop-splice : (k : ℕ) (xs ys : List ℕ) (at : ℕ) → length xs ≡ length ys → k ≤ at → drop at (splice k xs ys) ≡ drop at ys
unfolding splice
drop-splice zero xs ys at e le = refl
drop-splice (suc k) [] ys at e le = refl
drop-splice (suc k) (x ∷ xs) [] at e le = absurd (omega (arith, e))
drop-splice (suc k) (x ∷ xs) (y ∷ ys) zero e le = absurd (omega (arith, le))
drop-splice (suc k) (x ∷ xs) (y ∷ ys) (suc at) e le = drop-splice k xs ys at (omega (arith, e)) (omega (arith, le))

-- lists that are equally long and have the same numbers
pub lists_same : (xs ys : List ℕ) → length xs ≡ length ys → ((i : ℕ) → slice_index xs i ≡ slice_index ys i) → xs ≡ ys
lists_same [] [] e f = refl
lists_same [] (y ∷ ys) e f = absurd (omega (arith, e))
lists_same (x ∷ xs) [] e f = absurd (omega (arith, e))
lists_same (x ∷ xs) (y ∷ ys) e f = ap (λ (n : ℕ). n ∷ xs) (f 0) ∙ ap (λ (ns : List ℕ). y ∷ ns) (lists_same xs ys (omega (arith, e)) (λ i. f (suc i)))
