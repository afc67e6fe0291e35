-- The function where a run begins is called main, and has no parameters.
use Rattle.std.proofs.Common.{◌≡◌, ℕ, suc, ◌+◌, ◌==◌, ◌&&◌, Bool, true, false, List, [], ◌∷◌, length, Option, Some, None, refl, arith}
use Rattle.std.proofs.lemmas.Bool.{and_parts, eqb-true}
use Rattle.std.proofs.lemmas.List.{nil_from_length}
use Rattle.std.proofs.lemmas.Option.{same_Some, none-some}
use Rattle.std.specs.Prelude.{codes, slice_get, if◌then◌else◌}
use Rattle.std.specs.Str.{bytes_eq}
use Rattle.c_types.specs.declared.types.CType.TheVariants as types
use Rattle.c_types.specs.declared.types.Integer.TheVariants as ints
use Rattle.c_types.specs.Types.{same_type}
use Rattle.c_program.specs.Programs.{ARoutine}
use Rattle.c_sound.specs.Sound.{IsMain}
use Rattle.c_sound_bodies.specs.c_typed_definition.specs.Texts.{is_main, behind, main_of}

-- a function of this number is main
pub record MainAt (bodies : List ARoutine) (n : ℕ) : Type 0 where
  pub routine : ARoutine
  pub here : slice_get bodies n ≡ Some routine
  pub main : is_main routine ≡ true

later_main : (b : ARoutine) (bodies : List ARoutine) (m : Option ℕ) (n : ℕ) → behind m ≡ Some n →
    ((k : ℕ) → m ≡ Some k → MainAt bodies k) → MainAt (b ∷ bodies) n
later_main b bodies None n e rest = absurd (none-some n e)
later_main b bodies (Some k) n e rest =
    let h = rest k refl in
    let same : k + 1 ≡ n = same_Some (k + 1) n e in
    let number : n ≡ suc k = omega arith in
    rw number (record { routine = h.routine; here = h.here; main = h.main })

main_if : (test : Bool) (b : ARoutine) (bodies : List ARoutine) (n : ℕ) → is_main b ≡ test →
    (if test then Some 0 else behind (main_of bodies)) ≡ Some n → ((k : ℕ) → main_of bodies ≡ Some k → MainAt bodies k) →
    MainAt (b ∷ bodies) n
main_if true b bodies n is e rest = let same : n ≡ 0 = cc in rw same (record { routine = b; here = refl; main = is })
main_if false b bodies n is e rest = later_main b bodies (main_of bodies) n e rest

pub main_at : (bodies : List ARoutine) (n : ℕ) → main_of bodies ≡ Some n → MainAt bodies n
main_at [] n e = absurd (cc)
main_at (b ∷ bodies) n e = main_if (is_main b) b bodies n refl e (main_at bodies)

-- its name and its parameters
pub called_main : (g : ARoutine) → is_main g ≡ true → IsMain g.name
called_main g h =
    (and_parts (bytes_eq g.name (codes "main")) (same_type g.result (types.Integer ints.Int) && (length g.parameters == 0)) h).0

pub main_takes_nothing : (g : ARoutine) → is_main g ≡ true → g.parameters ≡ []
main_takes_nothing g h =
    let rest =
    (and_parts (bytes_eq g.name (codes "main")) (same_type g.result (types.Integer ints.Int) && (length g.parameters == 0)) h).1 in
    let none = (and_parts (same_type g.result (types.Integer ints.Int)) (length g.parameters == 0) rest).1 in
    nil_from_length g.parameters (eqb-true (length g.parameters) 0 none)
