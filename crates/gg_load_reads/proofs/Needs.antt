-- The need of a function by its number.
use Rattle.std.proofs.Common.{◌≤◌, ℕ, zero, suc, List, [], ◌∷◌, slice_get, arith}
use Rattle.std.specs.List.{AllByRecursion}
use Rattle.c_program.specs.Programs.{ARoutine}
use Rattle.c_typed.specs.c_typed_check.specs.Typed.{need_in}
use Rattle.gg_load_program.specs.Program.{IsSmall}

pub small_at : (rs : List ARoutine) (n : ℕ) → AllByRecursion IsSmall rs → need_in (slice_get rs n) ≤ 1024
small_at [] n h = omega arith
small_at (r ∷ rs) zero h = h.0
small_at (r ∷ rs) (suc n) h = small_at rs n h.1
