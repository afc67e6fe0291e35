-- What is known where a test let something pass.
use Rattle.std.proofs.Common.{◌≡◌, ℕ, Bool, true, false, cond, List, [], ◌∷◌, ◌++◌, Result, Ok, Err, refl}
use Rattle.std.specs.List.{AllByRecursion}
use Rattle.std.proofs.lemmas.Slice.Eq.{bytes_eq-Decides}
use Rattle.md_reader_text.specs.Words.{same}
use Rattle.md_reader.specs.declared.faults.DescKind.{DescKind}

pub when : {A : Type 0} (b : Bool) (k : DescKind) (r : Result A DescKind) (t : A) → cond b (Err k) r ≡ Ok t → (b ≡ false) × (r ≡ Ok t)
when true k r t e = absurd cc
when false k r t e = (refl, e)

pub unless : {A : Type 0} (b : Bool) (k : DescKind) (r : Result A DescKind) (t : A) → cond b r (Err k) ≡ Ok t → (b ≡ true) × (r ≡ Ok t)
unless true k r t e = (refl, e)
unless false k r t e = absurd cc

pub ok_same : {A K : Type 0} (a b : A) (r q : Result A K) → r ≡ Ok a → q ≡ Ok b → r ≡ q → a ≡ b
ok_same a b r q e f g = cc

pub same_true : (a b : List ℕ) → same a b ≡ true → a ≡ b
same_true a b e = (bytes_eq-Decides a b).0 e

pub same_refl : (w : List ℕ) → same w w ≡ true
same_refl w = (bytes_eq-Decides w w).1 refl

pub not_same : (n w : List ℕ) → (n ≡ w → ⊥) → same n w ≡ false
not_same n w h = at (same n w) refl
  where
    at : (b : Bool) → same n w ≡ b → b ≡ false
    at true e = absurd (h (same_true n w e))
    at false e = refl

pub All-push : {A : Type 0} (P : A → Type 0) (xs : List A) (n : A) → AllByRecursion P xs → P n → AllByRecursion P (xs ++ n ∷ [])
All-push P [] n h k = (k, tt)
All-push P (x ∷ xs) n h k = (h.0, All-push P xs n h.1 k)
