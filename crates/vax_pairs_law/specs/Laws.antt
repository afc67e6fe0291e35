-- Laws of all relations: codes that do the same piece by piece run alike, and so do codes with a certificate.
use Rattle.std.specs.Prelude.{ℕ, Bool, List}
use Rattle.vax_alike.specs.Alike.{AlikeRuns}
use Rattle.vax_pairs.specs.vax_core.specs.declared.code.Code.{Code}
use Rattle.vax_pairs.specs.vax_machine.specs.State.{State}
use Rattle.vax_pairs.specs.vax_machine.specs.Running.{run}
use Rattle.vax_pairs.specs.vax_machine_lists.specs.Sound.{AllBelow}
use Rattle.vax_pairs.specs.Standing.{Seen}
use Rattle.vax_pairs.specs.Piecewise.{Piecewise}
use Rattle.vax_pairs.specs.Shown.{Certified}

-- Codes that do the same piece by piece run alike.
abbrev pub PiecewiseRunsAreAlike : Type 1
PiecewiseRunsAreAlike =
    (Rel : Type 0) (Holds : Rel → Seen → Seen → Type 0) (At : ℕ → ℕ → ℕ → Rel → Type 0) (Ready OthersReady : State → Type 0)
    (c d : Code) → Piecewise Rel Holds At Ready OthersReady c d
    → (input : List ℕ) → AllBelow 256 input → AlikeRuns (run c input) (run d input)

-- Codes with a certificate run alike.
abbrev pub CertifiedRunsAreAlike : Type 1
CertifiedRunsAreAlike =
    (Rel : Type 0) (Holds : Rel → Seen → Seen → Type 0) (At : ℕ → ℕ → ℕ → Rel → Type 0) (Ready OthersReady Fine : State → Type 0)
    (is_cut others_cut : ℕ → Bool) (c d : Code) → Certified Rel Holds At Ready OthersReady Fine is_cut others_cut c d
    → (input : List ℕ) → AllBelow 256 input → AlikeRuns (run c input) (run d input)
