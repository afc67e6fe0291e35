-- Where each function of a sound C program fits its frame, its trees have room.
use Rattle.std.proofs.Common.{◌≡◌, ◌⊎◌, inl, inr, ℕ, ◌+◌, ◌<◌, ◌≤◌, List, length, get_or, Some, None, arith}
use Rattle.std.specs.Prelude.{slice_get}
use Rattle.std.proofs.lemmas.Option.{slice_get_cases, slice_get_within}
use Rattle.tree_core.specs.declared.tree.Leaf.{Leaf}
use Rattle.tree_core.specs.declared.program.TreeItem.TheVariants as tree_item
use Rattle.tree_core.specs.declared.program.TreeFn.{TreeFn}
use Rattle.tree_core_forks.specs.Forks.{forks}
use Rattle.c_program.specs.Need.{need_of}
use Rattle.c_program.specs.Programs.{ARoutine}
use Rattle.c_lower_scheme.specs.Programs.{lowered}
use Rattle.gg_compile_counts.specs.c_lower_bounds.specs.Claim.{FitsFrame}
use Rattle.gg_compile_counts.specs.c_lower_bounds.proofs.Law.{each_function_fits, functions_stay}
use Rattle.gg_compile_laws.specs.Rooms.{LoweredProgramsHaveRooms}

fits_room : (need : ℕ) (g : TreeFn) → FitsFrame need g → need ≤ 1024 → (n : ℕ) (w : List Leaf) → slice_get g.items n ≡ Some (tree_item.Root w) → g.locals + (forks w + 1) ≤ 1024
fits_room need g h few n w at = let le = h.roots n w at in omega (arith, le, few)

pub lowered_programs_have_rooms : LoweredProgramsHaveRooms
lowered_programs_have_rooms p sound few f n g w there at = by (slice_get_cases p.routines f).1
  where
    by : ((r : ARoutine) × (f < length p.routines) × (slice_get p.routines f ≡ Some r) × (get_or p.routines f r ≡ r)) ⊎ ((length p.routines ≤ f) × (slice_get p.routines f ≡ None))
        → g.locals + (forks w + 1) ≤ 1024
    by (inl x) = fits_room (need_of x.0.locals x.0.block x.0.body) g (each_function_fits p sound f x.0 g x.2 there) (few f x.0 x.2) n w at
    by (inr x) =
        let lt : f < length (lowered p).functions = slice_get_within (lowered p).functions f g there in
        let count = (functions_stay p).count in
        absurd (omega (arith, x.0, lt, count))
