-- Lists that grow at their end, one item for each number.
use Rattle.std.proofs.Common.{◌≡◌, ◌<◌, ◌⊎◌, inl, inr, ℕ, zero, suc, ◌+◌, List, [], ◌∷◌, ◌++◌, length, Some, slice_get, refl, sym, ap, subst, ◌∙◌, arith, append_assoc, length-append}
use Rattle.gg_base.proofs.Facts.{slice_seam}

pub below_or_last : (i n : ℕ) → i < suc n → (i < n) ⊎ (i ≡ n)
below_or_last zero zero h = inr refl
below_or_last zero (suc n) h = inl (omega arith)
below_or_last (suc i) zero h = absurd (omega arith)
below_or_last (suc i) (suc n) h = on (below_or_last i n (omega arith))
  where
    on : (i < n) ⊎ (i ≡ n) → (suc i < suc n) ⊎ (suc i ≡ suc n)
    on (inl low) = inl (omega arith)
    on (inr e) = inr (ap suc e)

module _ {A : Type 0} (row : ℕ → List A) (item : ℕ → A) (none : row 0 ≡ []) (next : (n : ℕ) → row (suc n) ≡ row n ++ item n ∷ []) where
  pub row_length : (n : ℕ) → length (row n) ≡ n
  row_length zero = ap length none
  row_length (suc n) =
      let e : length (row (suc n)) ≡ length (row n ++ item n ∷ []) = ap length (next n) in
      let f : length (row n ++ item n ∷ []) ≡ length (row n) + 1 = length-append (row n) (item n ∷ []) in
      let g : length (row n) ≡ n = row_length n in
      omega arith

  pub row_at : (n i : ℕ) → i < n → (rest : List A) → slice_get (row n ++ rest) i ≡ Some (item i)
  row_at zero i low rest = absurd (omega arith)
  row_at (suc n) i low rest =
      ap (λ (l : List A). slice_get (l ++ rest) i) (next n)
      ∙ (ap (λ (l : List A). slice_get l i) (append_assoc (row n) (item n ∷ []) rest) ∙ on (λ below. row_at n i below (item n ∷ rest)) (below_or_last i n low))
    where
      on : (i < n → slice_get (row n ++ (item n ∷ rest)) i ≡ Some (item i)) → (i < n) ⊎ (i ≡ n) → slice_get (row n ++ (item n ∷ rest)) i ≡ Some (item i)
      on before (inl below) = before below
      on before (inr e) = subst (λ (j : ℕ). slice_get (row n ++ (item n ∷ rest)) j ≡ Some (item j)) (sym e)
          (subst (λ (j : ℕ). slice_get (row n ++ (item n ∷ rest)) j ≡ Some (item n)) (row_length n) (slice_seam (row n) (item n) rest))
