-- Lists whose elements are shown one by one.
use Rattle.std.proofs.Common.{◌≡◌, ℕ, zero, suc, ◌+◌, List, [], ◌∷◌, map, take, length, ◌<◌, Some, subst, arith}
use Rattle.std.specs.Prelude.{slice_get, slice_index_or}

-- what holds of each element
abbrev pub EachOf : {X : Type 0} → (X → Type 0) → List X → Type 0
EachOf P [] = Unit {0}
EachOf P (x ∷ xs) = P x × EachOf P xs

pub each_more : {X : Type 0} (P : X → Type 0) (xs : List X) (i : ℕ) (d : X) → i < length xs → EachOf P (take i xs) → P (slice_index_or xs i d)
    → EachOf P (take (i + 1) xs)
each_more P [] i d lt h p = absurd (omega (arith, lt))
each_more P (x ∷ xs) zero d lt h p = (p, tt)
each_more P (x ∷ xs) (suc i) d lt h p =
    let e : suc i + 1 ≡ suc (i + 1) = omega arith in
    rw e (h.0, each_more P xs i d (omega (arith, lt)) h.1 p)

pub each_at : {X Y : Type 0} (f : X → Y) (P : Y → Type 0) (xs : List X) → EachOf (λ x. P (f x)) xs → (i : ℕ) (y : Y) → slice_get (map f xs) i ≡ Some y → P y
each_at f P [] h i y e = absurd (cc)
each_at f P (x ∷ xs) h zero y e = subst P (some_same (f x) y e) h.0 where
  some_same : {Y : Type 0} (a b : Y) → Some a ≡ Some b → a ≡ b
  some_same a b e = cc
each_at f P (x ∷ xs) h (suc i) y e = each_at f P xs h.1 i y e
