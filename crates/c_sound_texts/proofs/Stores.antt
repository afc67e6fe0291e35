-- The parameters that are memory locals: their stores, in front of a body, fit and stand.
use Rattle.std.proofs.Common.{◌≡◌, ℕ, ◌<◌, ◌≤◌, Bool, true, List, [], ◌∷◌, ◌++◌, Option, Some, None, arith, refl, false, length}
use Rattle.std.specs.Prelude.{is_some, if◌then◌else◌}
use Rattle.c_phrases.specs.declared.tree.Named.{Named}
use Rattle.c_phrases.specs.Units.{AParam}
use Rattle.c_types.specs.declared.types.CType.{CType}
use Rattle.c_types.specs.declared.types.Integer.{Integer}
use Rattle.c_types.specs.Types.{is_scalar}
use Rattle.c_program.specs.Statements.{ADeclaration, SomeActions}
use Rattle.c_program.specs.Programs.{ARoutine}
use Rattle.c_sound.specs.Fits.{declaring, FitsDeclared, FitsActs}
use Rattle.c_sound.specs.Stands.{IsThere, Takes, StandsDeclared, StandsActs}
use Rattle.c_typed_scope.specs.Scopes.{Scope}
use Rattle.c_typed_scope.specs.Layout.{aligned}
use Rattle.c_typed_expressions.specs.Phrases.{brackets_in}
use Rattle.c_typed_expressions.specs.Expressions.{integer_of, under_stars, written}
use Rattle.c_sound_bodies.specs.c_typed_definition.specs.Rooms.{parameter_store}
use Rattle.c_sound_bodies.specs.c_typed_definition.specs.Signatures.{array_parameter, parameter_type}
use Rattle.c_sound_bodies.specs.c_typed_definition.specs.Bodies.{with_stores}
use Rattle.c_sound_bodies.specs.c_typed_law.specs.Headings.{IsParameterForm}

-- a parameter is stored in the block
pub record IsStore (parameters block : ℕ) (d : ADeclaration) : Type 0 where
  pub type : CType
  pub number : ℕ
  pub offset : ℕ
  pub scalar : is_scalar type ≡ true
  pub below : number < parameters
  pub lies : offset < block
  pub is : d ≡ parameter_store type number offset

abbrev pub AreStores : (parameters block : ℕ) → List ADeclaration → Type 0
AreStores parameters block [] = Unit {0}
AreStores parameters block (d ∷ ds) = IsStore parameters block d × AreStores parameters block ds

store_more : (parameters block room : ℕ) (d : ADeclaration) → block ≤ room → IsStore parameters block d → IsStore parameters room d
store_more parameters block room d le h =
    let lies : h.offset < block = h.lies in
    record { type = h.type; number = h.number; offset = h.offset; scalar = h.scalar; below = h.below; lies = omega arith; is = h.is }

-- in a larger block
pub stores_more : (parameters block room : ℕ) (ds : List ADeclaration) → block ≤ room → AreStores parameters block ds →
    AreStores parameters room ds
stores_more parameters block room [] le all = tt
stores_more parameters block room (d ∷ ds) le all = (store_more parameters block room d le all.0, stores_more parameters block room ds le all.1)

-- one more
pub stores_push : (parameters block : ℕ) (ds : List ADeclaration) (d : ADeclaration) → AreStores parameters block ds →
    IsStore parameters block d → AreStores parameters block (ds ++ d ∷ [])
stores_push parameters block [] d all h = (h, tt)
stores_push parameters block (x ∷ ds) d all h = (all.0, stores_push parameters block ds d all.1 h)

stores_fit : (size parameters block : ℕ) (scope : ℕ → Type 0) (ds : List ADeclaration) → AreStores parameters block ds → FitsDeclared size scope ds
stores_fit size parameters block scope [] all = tt
stores_fit size parameters block scope (d ∷ ds) all =
    let h = all.0 in
    let rest = stores_fit size parameters block scope ds all.1 in
    rw (h.is) (h.scalar, tt, rest)

stores_stand : (objects parameters block : ℕ) (gs : List ARoutine) (ds : List ADeclaration) → AreStores parameters block ds →
    StandsDeclared (IsThere objects parameters block) (Takes gs) objects ds
stores_stand objects parameters block gs [] all = tt
stores_stand objects parameters block gs (d ∷ ds) all =
    let h = all.0 in
    let rest = stores_stand objects parameters block gs ds all.1 in
    rw (h.is) (h.lies, h.below, rest)

-- they bring no local into scope
fits_behind : (size parameters block : ℕ) (scope : ℕ → Type 0) (looping : Bool) (ds : List ADeclaration) (body : SomeActions) →
    AreStores parameters block ds → FitsActs size scope looping body → FitsActs size (declaring scope ds) looping body
fits_behind size parameters block scope looping [] body all h = h
fits_behind size parameters block scope looping (d ∷ ds) body all h =
    let one = all.0 in
    let rest = fits_behind size parameters block scope looping ds body all.1 h in
    rw (one.is) rest

pub stored_fits : (size parameters block : ℕ) (scope : ℕ → Type 0) (looping : Bool) (ds : List ADeclaration) (body : SomeActions) →
    AreStores parameters block ds → FitsActs size scope looping body → FitsActs size scope looping (with_stores ds body)
stored_fits size parameters block scope looping [] body all h = h
stored_fits size parameters block scope looping (d ∷ ds) body all h =
    (stores_fit size parameters block scope (d ∷ ds) all, fits_behind size parameters block scope looping (d ∷ ds) body all h)

pub stored_stands : (objects parameters block : ℕ) (gs : List ARoutine) (ds : List ADeclaration) (body : SomeActions) →
    AreStores parameters block ds → StandsActs (IsThere objects parameters block) (Takes gs) objects body →
    StandsActs (IsThere objects parameters block) (Takes gs) objects (with_stores ds body)
stored_stands objects parameters block gs [] body all h = h
stored_stands objects parameters block gs (d ∷ ds) body all h = (stores_stand objects parameters block gs (d ∷ ds) all, h)

-- a block is a multiple of 4
pub four_above : (n : ℕ) → n ≤ aligned n 4
unfolding aligned
four_above n = omega arith

pub four_within : (n : ℕ) → n ≤ 262144 → aligned n 4 ≤ 262144
unfolding aligned
four_within n le = omega arith

-- a parameter has a value
form_scalar : (name : Option Named) (defines : Bool) (p : AParam) (scope : Scope) (ok : Unit {0}) → IsParameterForm name defines p scope ok →
    is_scalar (written p.spec p.stars) ≡ true
form_scalar (Some n) defines p scope ok j = j.typed.holds
form_scalar None defines p scope ok j = j.holds

scalar_by : (test : Bool) (b : Option Integer) (n : ℕ) → is_scalar (under_stars b n) ≡ true →
    is_scalar (if test then array_parameter b n else under_stars b n) ≡ true
unfolding is_scalar
scalar_by true None n h = absurd (cc)
scalar_by true (Some b) n h = refl
scalar_by false b n h = h

pub parameter_scalar : (defines : Bool) (p : AParam) (scope : Scope) (ok : Unit {0}) → IsParameterForm p.name defines p scope ok →
    is_scalar (parameter_type p) ≡ true
unfolding written
parameter_scalar defines p scope ok j =
    scalar_by (is_some (brackets_in p.length)) (integer_of p.spec) (length p.stars) (form_scalar p.name defines p scope ok j)
