-- The routines of a generated source by their numbers.
use Rattle.std.proofs.Common.{◌≡◌, ◌<◌, ℕ, [], ◌∷◌, ◌++◌, length, Some, slice_get, refl, subst}
use Rattle.gg_base.proofs.Facts.{slice_seam}
use Rattle.gg_load_program.specs.Program.{function_routine, function_routines, main_routine}
use Rattle.gg_load_program.proofs.Rows.{row_length, row_at}

pub routines_length : (n : ℕ) → length (function_routines n) ≡ n
routines_length = row_length function_routines function_routine refl (λ n. refl)

pub main_there : (k : ℕ) → slice_get (function_routines k ++ main_routine k ∷ []) k ≡ Some (main_routine k)
main_there k =
    subst (λ (j : ℕ). slice_get (function_routines k ++ main_routine k ∷ []) j ≡ Some (main_routine k)) (routines_length k) (slice_seam (function_routines k) (main_routine k) [])

pub function_there : (k i : ℕ) → i < k → slice_get (function_routines k ++ main_routine k ∷ []) i ≡ Some (function_routine i)
function_there k i low = row_at function_routines function_routine refl (λ n. refl) k i low (main_routine k ∷ [])
