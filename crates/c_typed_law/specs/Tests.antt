-- Tests that stand before what follows them.
use Rattle.std.specs.Prelude.{◌≡◌, ℕ, Bool, true, false}
use Rattle.c_types.specs.declared.fault.TypeKind.{TypeKind}
use Rattle.c_types.specs.Answers.{Fault}

-- The test fails, and this holds.
pub record Without {A : Type 0} (test : Bool) (R : A → Type 0) (t : A) : Type 0 where
  pub fails : test ≡ false
  pub typed : R t

-- The test holds, and this too.
pub record With {A : Type 0} (test : Bool) (R : A → Type 0) (t : A) : Type 0 where
  pub holds : test ≡ true
  pub typed : R t

-- A test that has to hold fails, or there is a later fault.
pub data Lacking (test : Bool) (place : ℕ) (kind : TypeKind) (F : Fault → Type 0) (f : Fault) : Type 0 where
  Fails : (fails : test ≡ false) (is : f ≡ record { place = place; kind = kind }) → Lacking test place kind F f
  Holds : (holds : test ≡ true) (later : F f) → Lacking test place kind F f

-- There is no such fault.
abbrev pub Never : Fault → Type 0
Never f = ⊥

-- It is this fault.
abbrev pub IsFault : ℕ → TypeKind → Fault → Type 0
IsFault place kind f = f ≡ record { place = place; kind = kind }
