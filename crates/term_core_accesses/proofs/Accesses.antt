-- Accesses of lists that are joined, and what it is to be safe.
use Rattle.std.proofs.Common.{◌≡◌, inl, inr, ℕ, List, [], ◌∷◌, ◌++◌, Bool, true, false, refl, ap, ◌∙◌}
use Rattle.std.specs.Prelude.{◌||◌, if◌then◌else◌}
use Rattle.gg_base.specs.declared.size.Size.{Size}
use Rattle.tree_core.specs.Area.{is_inside}
use Rattle.term_core.specs.Shape.{Shape, Constant, Symbol, LastResult, Memory, Unary, Binary}
use Rattle.term_core.specs.Value.{State, value}
use Rattle.term_core_accesses.specs.Accesses.{Access, divides_well, accesses, IsOneOf, Knows, Safe}
use Rattle.term_core_accesses.specs.Keeping.{SafeByAccesses}

module _ (x : Access) where
  pub in_front : (xs ys : List Access) → IsOneOf x xs → IsOneOf x (xs ++ ys)
  in_front [] ys h = absurd h
  in_front (y ∷ xs) ys (inl e) = inl e
  in_front (y ∷ xs) ys (inr h) = inr (in_front xs ys h)

  pub in_back : (xs ys : List Access) → IsOneOf x ys → IsOneOf x (xs ++ ys)
  in_back [] ys h = h
  in_back (y ∷ xs) ys h = inr (in_back xs ys h)

  -- one of both lists is one of either
  pub by_part : {P : Type 0} (xs ys : List Access) → (IsOneOf x xs → P) → (IsOneOf x ys → P) → IsOneOf x (xs ++ ys) → P
  by_part [] ys f g h = g h
  by_part (y ∷ xs) ys f g (inl e) = f (inl e)
  by_part (y ∷ xs) ys f g (inr h) = by_part xs ys (λ k. f (inr k)) g h

-- the access of a term that reads memory, where it is made
abbrev pub own : Bool → Size → ℕ → List Access
own made size address = if made then record { size = size; address = address } ∷ [] else []

module _ (area : List ℕ) where
  abbrev IsIn : List Access → Type 0
  IsIn xs = (x : Access) → IsOneOf x xs → is_inside x.size area x.address ≡ true

  own_in : (made : Bool) (size : Size) (address : ℕ) → (made ≡ true → is_inside size area address ≡ true) → IsIn (own made size address)
  own_in true size address h x (inl e) = ap (λ (y : Access). is_inside y.size area y.address) e ∙ h refl
  own_in true size address h x (inr q) = absurd q
  own_in false size address h x q = absurd q

  own_back : (made : Bool) (size : Size) (address : ℕ) → IsIn (own made size address) → made ≡ true → is_inside size area address ≡ true
  own_back true size address h e = h (record { size = size; address = address }) (inl refl)
  own_back false size address h e = absurd cc

  module _ (every : Bool) (known : ℕ → Type 0) (m : State) where
    abbrev Both : Shape → Type 0
    Both s = Knows known s × IsIn (accesses every m s)

    abbrev IsSafe : Shape → Type 0
    IsSafe s = Safe every known area m s

    there : (s : Shape) → IsSafe s → Both s
    there (Constant n) h = (tt, λ x q. absurd q)
    there (Symbol i) h = (h, λ x q. absurd q)
    there LastResult h = (tt, λ x q. absurd q)
    there (Memory size a) h =
        let k = there a h.0 in
        let made = every || divides_well m a in
        (k.0, λ x q. by_part x (accesses every m a) (own made size (value m a)) (k.1 x) (own_in made size (value m a) h.1 x) q)
    there (Unary op t) h = there t h
    there (Binary op a b) h =
        let k = there a h.0 in
        let l = there b h.1 in
        ((k.0, l.0), λ x q. by_part x (accesses every m a) (accesses every m b) (k.1 x) (l.1 x) q)

    back : (s : Shape) → Knows known s → IsIn (accesses every m s) → IsSafe s
    back (Constant n) k h = tt
    back (Symbol i) k h = k
    back LastResult k h = tt
    back (Memory size a) k h =
        let made = every || divides_well m a in (
          back a k (λ x q. h x (in_front x (accesses every m a) (own made size (value m a)) q)),
          own_back made size (value m a) (λ x q. h x (in_back x (accesses every m a) (own made size (value m a)) q)),
        )
    back (Unary op t) k h = back t k h
    back (Binary op a b) k h =
        (back a k.0 (λ x q. h x (in_front x (accesses every m a) (accesses every m b) q)), back b k.1 (λ x q. h x (in_back x (accesses every m a) (accesses every m b) q)))

pub safe_by_accesses : SafeByAccesses
safe_by_accesses every known area m s = (there area every (λ i. known i ≡ true) m s, λ h. back area every (λ i. known i ≡ true) m s h.0 h.1)
