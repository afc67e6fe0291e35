-- What the parts of a program's trees need: objects within the data area, and locals within a frame.
use Rattle.std.proofs.Common.{◌≡◌, ◌⊎◌, ℕ, ◌+◌, ◌<◌, ◌≤◌, true, List, [], ◌∷◌, length, get_or, Some, None, refl, ap, subst, inl, inr, arith}
use Rattle.std.specs.Prelude.{◌==◌, ◌&&◌, nat_le, slice_get}
use Rattle.std.specs.List.{All}
use Rattle.std.proofs.Math.Logic.{∥∥₁_map, ∥∥₁_elim}
use native.Mathlib.Bridge.{le_prop}
use Rattle.std.proofs.lemmas.Bool.{eqb-true, leb-true, and_parts}
use Rattle.std.proofs.lemmas.Option.{slice_get_cases, slice_get-get_or}
use Rattle.std.proofs.lemmas.List.Elements.{All-nil, All-cons, All-get_or, All-from_get_or}
use Rattle.tree_core.specs.declared.program.Object.{Object}
use Rattle.tree_core.specs.declared.program.TreeFn.{TreeFn}
use Rattle.tree_core.specs.declared.program.TreeProgram.{TreeProgram}
use Rattle.tree_core.specs.Valid.{is_aligned, is_whole, is_placed, rounded, object_lies, objects_lie, IsValid}
use Rattle.tree_core.proofs.Validity.{rounded_up}
use Rattle.c_program.specs.Programs.{ARoutine, AProgram}
use Rattle.c_program.specs.Need.{need_of}
use Rattle.c_lower.specs.c_typed_check.specs.Typed.{need_at, need_in}
use Rattle.c_lower.specs.Claims.{HasParts}
use Rattle.gg_compile.specs.Needs.{AllFit}

-- an object behind an address, and the bytes that it has
lies : (at : ℕ) (o : Object) → object_lies at o ≡ true → (at ≤ o.address) × (o.address + o.size ≤ 1114112) × (length o.bytes ≡ o.size)
lies at o h =
    let shape = and_parts (is_aligned o) (is_whole o && is_placed at o) h in
    let both = and_parts (is_whole o) (is_placed at o) shape.1 in
    let place = and_parts (o.address == rounded o.align at) (nat_le (o.address + o.size) (65536 + 1048576)) both.1 in
    let is : o.address ≡ rounded o.align at = eqb-true o.address (rounded o.align at) place.0 in
    let up : at ≤ rounded o.align at = rounded_up o.align at shape.0 in
    let within = leb-true (o.address + o.size) (65536 + 1048576) place.1 in
    (omega arith, omega arith, eqb-true (length o.bytes) o.size both.0)

abbrev Small : Object → Type 0
Small o = length o.bytes ≤ 1048576

lying_small : (at : ℕ) (os : List Object) → 65536 ≤ at → objects_lie at os ≡ true → All Small os
lying_small at [] low h = All-nil Small
lying_small at (o ∷ os) low h =
    let parts = and_parts (object_lies at o) (objects_lie (o.address + o.size) os) h in
    let here = lies at o parts.0 in
    All-cons Small o os (omega (arith, here.0, here.1, here.2, low)) (lying_small (o.address + o.size) os (omega (arith, here.0, low)) parts.1)

some_small : (os : List Object) → ∥ objects_lie 65536 os ≡ true ∥₁ → All Small os
some_small [] h = All-nil Small
some_small (o ∷ os) h =
    All-from_get_or Small (o ∷ os) o
    (λ i lt. ∥∥₁_elim h le_prop (λ k. All-get_or Small (o ∷ os) i o lt (lying_small 65536 (o ∷ os) (omega arith) k)))

-- the objects of a valid program
pub objects_small : (q : TreeProgram) → ∥ IsValid q ∥₁ → All (λ (o : Object). length o.bytes ≤ 1048576) q.objects
objects_small q h = some_small q.objects (∥∥₁_map h (λ v. v.objects))

abbrev Fits : TreeFn → Type 0
Fits f = f.locals ≤ 1024

module _ (p : AProgram) (q : TreeProgram) (parts : HasParts p q) (fit : AllFit p) where
  local : (n : ℕ) (f : TreeFn) → n < length q.functions → slice_get q.functions n ≡ Some f → Fits f
  local n f lt here = by (slice_get_cases p.routines n).1
    where
      by : ((g : ARoutine) × (n < length p.routines) × (slice_get p.routines n ≡ Some g) × (get_or p.routines n g ≡ g)) ⊎ ((length p.routines ≤ n) × (slice_get p.routines n ≡ None))
          → Fits f
      by (inl x) =
          let need : need_at p n ≡ need_of x.0.locals x.0.block x.0.body = ap need_in x.2 in
          let small = fit n x.1 in
          let room = (parts.functions n x.0 f x.2 here).fits.locals in
          omega (arith, need, small, room)
      by (inr x) = absurd (omega (arith, x.0, lt, parts.count))

  each_local : (fs : List TreeFn) → fs ≡ q.functions → All Fits fs
  each_local [] e = All-nil Fits
  each_local (f ∷ fs) e =
      All-from_get_or Fits (f ∷ fs) f
      (λ i lt. local i (get_or (f ∷ fs) i f) (subst (λ (xs : List TreeFn). i < length xs) e lt)
      (subst (λ (xs : List TreeFn). slice_get xs i ≡ Some (get_or (f ∷ fs) i f)) e (slice_get-get_or (f ∷ fs) i f lt)))

-- the locals of the functions that a program is lowered to, where each function fits
pub locals_fit : (p : AProgram) (q : TreeProgram) → HasParts p q → AllFit p → All (λ (f : TreeFn). f.locals ≤ 1024) q.functions
locals_fit p q parts fit = each_local p q parts fit q.functions refl
