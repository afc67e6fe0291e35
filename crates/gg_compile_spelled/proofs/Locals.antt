-- How many locals a function has.
use Rattle.std.proofs.Common.{◌≡◌, ℕ, zero, suc, List, [], ◌∷◌, length, Some, refl, arith}
use Rattle.std.specs.Prelude.{slice_get, ◌-◌}
use Rattle.tree_core.specs.declared.program.TreeFn.{TreeFn}
use Rattle.c_program.specs.Programs.{ARoutine}
use Rattle.c_lower_scheme.specs.Programs.{body_of, lower_all}
use Rattle.c_lower_bounds.proofs.Law.{each_function_fits}
use Rattle.gg_compile_spelled.specs.Claims.{LocalsAreFew}

-- a function of the trees has one of the program at its number
there : (pointer count : ℕ) (gs : List ARoutine) (l n : ℕ) (f : TreeFn) → slice_get (lower_all pointer count gs l) n ≡ Some f
    → (g : ARoutine) × (slice_get gs n ≡ Some g)
there pointer count [] l n f e = absurd (cc)
there pointer count (g ∷ gs) l zero f e = (g, refl)
there pointer count (g ∷ gs) l (suc n) f e = there pointer count gs (body_of pointer count g l).labels n f e

pub locals_are_few : LocalsAreFew
locals_are_few p most sound need n f e =
    let g = there (length p.objects - 2) (length p.routines) p.routines 0 n f e in
    let fits = each_function_fits p sound n g.0 f g.1 e in
    omega (arith, fits.locals, need n g.0 g.1)
