-- What typing guarantees of a program.
use Rattle.std.specs.Prelude.{◌≡◌, ℕ, ◌<◌, ◌≤◌, ◌^◌, List, [], length, map, codes, Some, false, true, slice_get, IsTrue}
use Rattle.std.specs.Str.{bytes_eq}
use Rattle.std.specs.List.{All}
use Rattle.gg_base.specs.declared.limits.TheConstants.{AREA_START}
use Rattle.c_types.specs.declared.typed.TheConstants.{BLOCK_LIMIT}
use Rattle.tree_core.specs.declared.program.Object.{Object}
use Rattle.tree_core.specs.Locals.{LocalsStand}
use Rattle.tree_core.specs.Valid.{objects_lie, LinksLie}
use Rattle.c_program.specs.Programs.{ARoutine, AProgram}
use Rattle.c_sound.specs.Fits.{AreBytes, FitsActs, no_local}
use Rattle.c_sound.specs.Stands.{IsThere, Takes, StandsActs}
use Rattle.c_sound.specs.Labels.{AreLabelled}

-- a function called main
abbrev pub IsMain : List ℕ → Type 0
IsMain name = bytes_eq name (codes "main") ≡ true

-- objects hold bytes
abbrev pub HoldBytes : List Object → Type 0
HoldBytes os = (n : ℕ) (o : Object) → slice_get os n ≡ Some o → AreBytes o.bytes

-- what a function's statements name is there
abbrev pub BodyStands : AProgram → ARoutine → Type 0
BodyStands p g = StandsActs (IsThere (length p.objects) (length g.parameters) g.block) (Takes p.routines) (length p.objects) g.body

pub record IsSound (p : AProgram) : Type 0 where
  -- in each function's statements each local is in scope, each number is a longword, and each jump has its loop
  pub fits : (f : ℕ) (g : ARoutine) → slice_get p.routines f ≡ Some g → FitsActs (length g.locals) no_local false g.body
  -- each object and parameter is there, and each call has its function with its number of arguments
  pub stands : (f : ℕ) (g : ARoutine) → slice_get p.routines f ≡ Some g → BodyStands p g
  -- the numbers of its `register` locals differ, and are those of locals
  pub registers : (f : ℕ) (g : ARoutine) → slice_get p.routines f ≡ Some g → LocalsStand (length g.locals) g.registers
  -- a function has at most `BLOCK_LIMIT` bytes of memory locals; where it has some, the second stack lies behind the other objects
  pub blocks : (f : ℕ) (g : ARoutine) → slice_get p.routines f ≡ Some g → g.block ≤ BLOCK_LIMIT
  pub stacked : (f : ℕ) (g : ARoutine) → slice_get p.routines f ≡ Some g → 1 ≤ g.block → 2 ≤ length p.objects
  -- a function has at most 32 parameters
  pub parameters : (f : ℕ) (g : ARoutine) → slice_get p.routines f ≡ Some g → length g.parameters ≤ 32
  -- no two functions have one name, and none that of a service
  pub differ : (f k : ℕ) (g h : ARoutine) → slice_get p.routines f ≡ Some g → slice_get p.routines k ≡ Some h
      → bytes_eq g.name h.name ≡ true → f ≡ k
  pub no_putchar : (f : ℕ) (g : ARoutine) → slice_get p.routines f ≡ Some g → bytes_eq g.name (codes "putchar") ≡ false
  pub no_getchar : (f : ℕ) (g : ARoutine) → slice_get p.routines f ≡ Some g → bytes_eq g.name (codes "getchar") ≡ false
  -- the main function is called main and has no parameters, and no other is called so
  pub main : (g : ARoutine) × (slice_get p.routines p.main ≡ Some g) × IsMain g.name × (g.parameters ≡ [])
  pub only_main : (f : ℕ) (g : ARoutine) → slice_get p.routines f ≡ Some g → IsMain g.name → f ≡ p.main
  -- the objects lie one behind another in the data area, with bytes as contents and links to objects
  pub objects : IsTrue (objects_lie AREA_START p.objects)
  pub links : All (LinksLie (length p.objects)) p.objects
  pub addresses : (n : ℕ) (o : Object) → slice_get p.objects n ≡ Some o → o.address < 2 ^ 32
  pub contents : HoldBytes p.objects
  -- their labels differ from each other and from those of functions and services, and links hold addresses
  pub labels : AreLabelled p.objects (map (λ (g : ARoutine). g.name) p.routines)
