-- The lines for the numbers from 0 on, one more at a time.
use Rattle.std.proofs.Common.{◌≡◌, ℕ, ◌+◌, List, [], ◌++◌, refl, add-one}
use Rattle.gg_load.specs.Source.{up_to}

pub up_to-zero : (line : ℕ → List ℕ) → up_to line 0 ≡ []
up_to-zero line = refl

pub up_to-next : (line : ℕ → List ℕ) (n : ℕ) → up_to line (n + 1) ≡ up_to line n ++ line n
up_to-next line n = rw (add-one n) refl
