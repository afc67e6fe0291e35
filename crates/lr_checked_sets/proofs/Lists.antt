-- For each element of a list another one.
use Rattle.std.proofs.Common.{◌≡◌, ℕ, zero, suc, ◌<◌, List, [], ◌∷◌, Contains, length, get_or, refl, ap, arith}

module _ {X Y : Type 0} (R : X → Y → Type 0) where
  pub record Matched (xs : List X) : Type 0 where
    pub others : List Y
    pub same : length others ≡ length xs
    pub each : (i : ℕ) (c : X) (d : Y) → i < length xs → R (get_or xs i c) (get_or others i d)

  pub matched : (xs : List X) → ((x : X) → Contains xs x → (y : Y) × R x y) → Matched xs
  matched [] h = record { others = []; same = refl; each = λ i c d lt. absurd (omega (arith, lt)) }
  matched (x ∷ xs) h =
      let y = h x (0, omega arith, refl) in
      let rest = matched xs (λ z m. let lt = m.1 in h z (suc m.0, omega (arith, lt), m.2)) in
      record { others = y.0 ∷ rest.others; same = ap suc rest.same; each = λ i c d lt. at y rest i c d lt }
    where
      at : (y : (y : Y) × R x y) (rest : Matched xs) (i : ℕ) (c : X) (d : Y) → i < length (x ∷ xs) → R (get_or (x ∷ xs) i c) (get_or (y.0 ∷ rest.others) i d)
      at y rest zero c d lt = y.1
      at y rest (suc i) c d lt = rest.each i c d (omega (arith, lt))
