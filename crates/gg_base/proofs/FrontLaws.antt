-- How many elements stand in front of the first one that passes a test, as `position` tells it.
use Rattle.std.proofs.Common.{◌≡◌, ◌+◌, ◌∙◌, ℕ, suc, Bool, true, false, not, cond, List, [], ◌∷◌, length, refl, arith}
use Rattle.std.proofs.lemmas.List.Sums.{prefix_len-le-length}
use Rattle.std.specs.List.{position, position_or_len}
use Rattle.std.specs.Option.{unwrap_or}
use Rattle.gg_base.specs.Fronts.{run_len}

module _ (ends : ℕ → Bool) (len : List ℕ → ℕ) (none : len [] ≡ 0) (more : (b : ℕ) (bs : List ℕ) → len (b ∷ bs) ≡ cond (ends b) 0 (suc (len bs))) where
  same : (text : List ℕ) → len text ≡ position_or_len ends text
  same [] = none
  same (b ∷ bs) = more b bs ∙ step (ends b) (same bs)
    where
      step : (t : Bool) → len bs ≡ position_or_len ends bs → cond t 0 (suc (len bs)) ≡ cond (not t) (1 + position_or_len ends bs) 0
      step true h = refl
      step false h = omega (arith, h)

  len_found : (text : List ℕ) → len text ≡ unwrap_or (position ends text) (length text)
  len_found text = grind (arith, same text, prefix_len-le-length (λ b. not (ends b)) text)

turned : (t : Bool) (n : ℕ) → cond t n 0 ≡ cond (not t) 0 n
turned true n = refl
turned false n = refl

-- what passes a test ends where the first that fails it stands
pub run_found : (p : ℕ → Bool) (text : List ℕ) → run_len p text ≡ unwrap_or (position (λ b. not (p b)) text) (length text)
run_found p text = len_found (λ b. not (p b)) (run_len p) refl (λ b bs. turned (p b) (suc (run_len p bs))) text

turned_back : (t : Bool) (n : ℕ) → cond (not t) n 0 ≡ cond t 0 n
turned_back true n = refl
turned_back false n = refl

-- what fails a test ends where the first that passes it stands
pub ends_found : (ends : ℕ → Bool) (text : List ℕ) → run_len (λ b. not (ends b)) text ≡ unwrap_or (position ends text) (length text)
ends_found ends text = len_found ends (run_len (λ b. not (ends b))) refl (λ b bs. turned_back (ends b) (suc (run_len (λ b. not (ends b)) bs))) text
