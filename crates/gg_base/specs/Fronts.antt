-- What stands at the front of bytes.
use Rattle.std.specs.Prelude.{Bool, true, false, ℕ, suc, ◌==◌, List, [], ◌∷◌, if◌then◌else◌}

-- how many bytes at the front pass the test
abbrev pub run_len : (ℕ → Bool) → List ℕ → ℕ
run_len test [] = 0
run_len test (b ∷ bs) = if test b then suc (run_len test bs) else 0

-- any byte but LF
abbrev pub in_line : ℕ → Bool
in_line b = if b == 10 then false else true
