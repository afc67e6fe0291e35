-- Lists that grow or shrink at their end.
use Rattle.std.proofs.Common.{◌≡◌, ℕ, zero, suc, ◌+◌, ◌<◌, true, List, [], ◌∷◌, ◌++◌, length, length-append, Option, Some, None, is_some, sym, ap, refl, ◌∙◌, arith}
use Rattle.std.specs.Prelude.{slice_index_or}
use Rattle.std.specs.Option.{option_flatten, option_to_list}
use Rattle.gg_base.proofs.Facts.{false_true}

pub one_pushed : {A : Type 0} (f : ℕ → A) (xs : List A) (n : ℕ) (x d : A) → length xs ≡ n → ((k : ℕ) → k < n → slice_index_or xs k d ≡ f k) → x ≡ f n → (k : ℕ) → k < n + 1
    → slice_index_or (xs ++ x ∷ []) k d ≡ f k
one_pushed f [] n x d len h e zero lt = e ∙ ap f (sym len)
one_pushed f [] n x d len h e (suc k) lt = absurd (omega (arith, len, lt))
one_pushed f (y ∷ xs) n x d len h e zero lt = h zero (omega (arith, len))
one_pushed f (y ∷ xs) n x d len h e (suc k) lt =
    one_pushed (λ j. f (suc j)) xs (length xs) x d refl (λ j l. h (suc j) (omega (arith, len, l))) (e ∙ ap f (sym len)) k (omega (arith, len, lt))

-- the last of some options is taken off
pub record Popped {A : Type 0} (xs rest : List (Option A)) (last : Option (Option A)) (n : ℕ) : Type 0 where
  pub items : xs ≡ rest ++ option_flatten last ∷ []
  pub each : length rest ≡ n

pub popped : {A : Type 0} (xs rest : List (Option A)) (last : Option (Option A)) (n : ℕ) → xs ≡ rest ++ option_to_list last → is_some last ≡ true → length xs ≡ n + 1 → Popped xs rest last n
popped xs rest None n e some len = false_true some
popped xs rest (Some o) n e some len = record {
  items = e;
  each = (let long : length xs ≡ length rest + 1 = ap length e ∙ length-append rest (o ∷ []) in omega (arith, long, len));
}
