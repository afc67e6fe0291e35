-- Tests and wanted values: the definition's answer is what the relations say.
use Rattle.std.proofs.Common.{◌≡◌, ℕ, Bool, true, false, Option, Some, None, Result, Ok, Err, refl, sym, ap}
use Rattle.std.specs.Prelude.{if◌then◌else◌}
use Rattle.c_types.specs.declared.fault.TypeKind.{TypeKind}
use Rattle.c_types.specs.declared.fault.TypeKind.TheVariants.{BadConst}
use Rattle.c_types.specs.Answers.{Fault, bad}
use Rattle.c_typed_definition.specs.c_typed_operators.specs.Table.{Means, NoRow}
use Rattle.c_typed_scope.specs.Contents.{wanted}
use Rattle.c_typed_definition.specs.c_typed_expressions.specs.Relations.{Unless, Refuses, Passes}
use Rattle.c_typed_law.specs.Tests.{With, Without, Lacking, Fails, Holds, IsFault}

-- a fault alone
pub means_bad : {A : Type 0} (at : ℕ) (kind : TypeKind) → Means (bad {A = A} at kind) (λ u. ⊥) (IsFault at kind)
means_bad at kind = record { found = λ t e. absurd (cc); only = λ t e. absurd e; faults = λ f e. cc; first = λ f e. ap Err (sym e) }

refused_first : {A : Type 0} (test : Bool) (at : ℕ) (kind : TypeKind) (f : Fault) (F : Fault → Type 0) → test ≡ true → Unless test at kind F f → bad {A = A} at kind ≡ Err f
refused_first test at kind f F holds (Refuses h is) = ap Err (sym is)
refused_first test at kind f F holds (Passes h later) = absurd (cc)

passed_first : {A : Type 0} (test : Bool) (at : ℕ) (kind : TypeKind) (m : Result A Fault) (F : Fault → Type 0) (f : Fault) → test ≡ false → ((g : Fault) → F g → m ≡ Err g)
    → Unless test at kind F f → m ≡ Err f
passed_first test at kind m F f fails first (Refuses h is) = absurd (cc)
passed_first test at kind m F f fails first (Passes h later) = first f later

-- a test that refuses first
pub unless_means : {A : Type 0} (test : Bool) (at : ℕ) (kind : TypeKind) (m : Result A Fault) (R : A → Type 0) (F : Fault → Type 0) → Means m R F
    → Means (if test then bad at kind else m) (Without test R) (Unless test at kind F)
unless_means true at kind m R F h = record {
  found = λ t e. absurd (cc);
  only = λ t w. absurd (cc (w.fails));
  faults = λ f e. Refuses refl (cc);
  first = λ f w. refused_first true at kind f F refl w;
}
unless_means false at kind m R F h = record {
  found = λ t e. record { fails = refl; typed = h.found t e };
  only = λ t w. h.only t w.typed;
  faults = λ f e. Passes refl (h.faults f e);
  first = λ f w. passed_first false at kind m F f refl h.first w;
}

lacking_first : {A : Type 0} (test : Bool) (at : ℕ) (kind : TypeKind) (f : Fault) (F : Fault → Type 0) → test ≡ false → Lacking test at kind F f → bad {A = A} at kind ≡ Err f
lacking_first test at kind f F fails (Fails h is) = ap Err (sym is)
lacking_first test at kind f F fails (Holds h later) = absurd (cc)

held_first : {A : Type 0} (test : Bool) (at : ℕ) (kind : TypeKind) (m : Result A Fault) (F : Fault → Type 0) (f : Fault) → test ≡ true → ((g : Fault) → F g → m ≡ Err g)
    → Lacking test at kind F f → m ≡ Err f
held_first test at kind m F f holds first (Fails h is) = absurd (cc)
held_first test at kind m F f holds first (Holds h later) = first f later

-- a test that has to hold
pub with_means : {A : Type 0} (test : Bool) (at : ℕ) (kind : TypeKind) (m : Result A Fault) (R : A → Type 0) (F : Fault → Type 0) → Means m R F
    → Means (if test then m else bad at kind) (With test R) (Lacking test at kind F)
with_means true at kind m R F h = record {
  found = λ t e. record { holds = refl; typed = h.found t e };
  only = λ t w. h.only t w.typed;
  faults = λ f e. Holds refl (h.faults f e);
  first = λ f w. held_first true at kind m F f refl h.first w;
}
with_means false at kind m R F h = record {
  found = λ t e. absurd (cc);
  only = λ t w. absurd (cc (w.holds));
  faults = λ f e. Fails refl (cc);
  first = λ f w. lacking_first false at kind f F refl w;
}

-- a value that is there, or this one fault
some_is : {A : Type 0} (o : Option A) (at : ℕ) (kind : TypeKind) (f : Fault) (v : A) → o ≡ Some v → NoRow (λ v. o ≡ Some v) at kind f → Ok v ≡ Err f
some_is o at kind f v is w = absurd (w.none v is)

pub wanted_means : {A : Type 0} (o : Option A) (at : ℕ) → Means (wanted o at) (λ v. o ≡ Some v) (NoRow (λ v. o ≡ Some v) at BadConst)
wanted_means None at = record {
  found = λ v e. absurd (cc);
  only = λ v e. absurd (cc);
  faults = λ f e. record { none = λ v e. absurd (cc); is = cc };
  first = λ f w. ap Err (sym w.is);
}
wanted_means (Some v) at = record {
  found = λ u e. cc;
  only = λ u e. cc;
  faults = λ f e. absurd (cc);
  first = λ f w. some_is (Some v) at BadConst f v refl w;
}
