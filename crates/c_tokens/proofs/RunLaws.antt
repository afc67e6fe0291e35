-- Runs of bytes.
use Rattle.std.proofs.Common.{◌≡◌, ◌≤◌, ◌+◌, ℕ, suc, Bool, true, false, cond, List, [], ◌∷◌, ◌++◌, length, take, drop, refl, ap, arith}
use Rattle.gg_base.specs.Fronts.{run_len}
use Rattle.c_tokens.specs.Grammar.{Pass, Stops, IsRun}

-- what is cut off is the longest run
pub run_cut : (p : ℕ → Bool) (text : List ℕ) → IsRun p text (take (run_len p text) text) (drop (run_len p text) text)
run_cut p [] = record { text_is = refl; pass = tt; stops = tt }
run_cut p (b ∷ bs) = step (p b) refl (run_cut p bs)
  where
    step : (t : Bool) → p b ≡ t → IsRun p bs (take (run_len p bs) bs) (drop (run_len p bs) bs)
        → IsRun p (b ∷ bs) (take (cond t (suc (run_len p bs)) 0) (b ∷ bs)) (drop (cond t (suc (run_len p bs)) 0) (b ∷ bs))
    step true e r = record { text_is = ap (λ (l : List ℕ). b ∷ l) r.text_is; pass = (e, r.pass); stops = r.stops }
    step false e r = record { text_is = refl; pass = tt; stops = e }

pub run_within : (p : ℕ → Bool) (text : List ℕ) → run_len p text ≤ length text
run_within p [] = omega arith
run_within p (b ∷ bs) = step (p b) (run_within p bs)
  where
    step : (t : Bool) → run_len p bs ≤ length bs → cond t (suc (run_len p bs)) 0 ≤ length (b ∷ bs)
    step true h = omega arith
    step false h = omega arith

-- a longest run is cut off
pub run_again : (p : ℕ → Bool) (run rest : List ℕ) → Pass p run → Stops p rest → run_len p (run ++ rest) ≡ length run
run_again p [] [] h s = refl
run_again p [] (b ∷ bs) h s = rw s refl
run_again p (b ∷ bs) rest h s = rw (h.0, run_again p bs rest h.1 s) refl
