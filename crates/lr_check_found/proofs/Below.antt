-- What is true of each element of a list.
use Rattle.std.proofs.Common.{◌≡◌, ℕ, ◌+◌, ◌≤◌, ◌<◌, List, Some, Contains, length, get_or, slice_get, ap, sym, ◌∙◌, subst, ⊎_elim, arith}
use Rattle.std.proofs.lemmas.Option.{get_or_from_slice_get, slice_get-get_or}
use Rattle.std.proofs.lemmas.List.{get_or_default}
use Rattle.std.proofs.lemmas.Bool.{cases_lt}

-- of each before the n-th
pub record Below {X : Type 0} (xs : List X) (n : ℕ) (P : X → Type 0) : Type 0 where
  pub each : (i : ℕ) (x : X) → i < n → slice_get xs i ≡ Some x → P x

pub none_below : {X : Type 0} (xs : List X) (P : X → Type 0) → Below xs 0 P
none_below xs P = record { each = λ i x lt e. absurd (omega (arith, lt)) }

pub one_more : {X : Type 0} (xs : List X) (n : ℕ) (P : X → Type 0) (d : X) → Below xs n P → d ≡ get_or xs n d → P d → Below xs (n + 1) P
one_more xs n P d b is h = record {
  each = λ i x lt e. ⊎_elim
      (λ less. b.each i x less e)
      (λ ge.
      let same : i ≡ n = omega (arith, lt, ge) in
      subst P (is ∙ (ap (λ k. get_or xs k d) (sym same) ∙ get_or_from_slice_get xs i x d e)) h)
      (cases_lt i n);
}

pub one_more_at : {X : Type 0} (xs : List X) (n : ℕ) (P : X → Type 0) (d : X) → Below xs n P → n < length xs → P (get_or xs n d) → Below xs (n + 1) P
one_more_at xs n P d b lt h = one_more xs n P (get_or xs n d) b (get_or_default xs n d (get_or xs n d) lt) h

pub of_all : {X : Type 0} (xs : List X) (n : ℕ) (P : X → Type 0) → Below xs n P → length xs ≤ n → (x : X) → Contains xs x → P x
of_all xs n P b le x m = b.each m.0 x (let lt = m.1 in omega (arith, lt, le)) (slice_get-get_or xs m.0 x m.1 ∙ ap Some m.2)
