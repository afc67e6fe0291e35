-- Lengths in brackets, and the values that objects hold at first.
use Rattle.std.specs.Prelude.{◌≡◌, ℕ, true, false, List, Some}
use Rattle.c_typed_definition.specs.tree_core.specs.declared.program.Object.{Object}
use Rattle.c_types.specs.declared.types.CType.{CType}
use Rattle.c_types.specs.declared.types.CType.TheVariants as types
use Rattle.c_types.specs.declared.types.Integer.{Integer}
use Rattle.c_types.specs.declared.fault.TypeKind.TheVariants.{BadConst, BadType}
use Rattle.c_types.specs.Answers.{Fault}
use Rattle.c_types.specs.Types.{same_type, integer_size, is_integer}
use Rattle.c_types.specs.Typed.{AnExpression, type_of, is_null}
use Rattle.c_types.specs.Constants.{constant_of}
use Rattle.c_typed_definition.specs.c_typed_operators.specs.Table.{NoRow}
use Rattle.c_typed_scope.specs.declared.entry.Entry.{Entry}
use Rattle.c_typed_scope.specs.declared.entry.Signature.{Signature}
use Rattle.c_typed_scope.specs.Scopes.{Scope}
use Rattle.c_typed_scope.specs.Layout.{Area}
use Rattle.c_typed_scope.specs.Contents.{length_of, linked, Filled, with_value, with_link}
use Rattle.c_phrases.specs.Phrases.{AnExp, SomeExps, no_exps, exps}
use Rattle.c_typed_definition.specs.c_typed_expressions.specs.Phrases.{first}
use Rattle.c_typed_definition.specs.c_typed_expressions.specs.Relations.{Joint, FirstOf, IsTyped, FirstFault}
use Rattle.c_typed_law.specs.Tests.{With, Lacking, Never, IsFault}

-- an integer's initialiser: a constant of an integer type
abbrev pub IsIntegerValue : Integer → AnExpression → Filled → Filled → Type 0
IsIntegerValue b x f g = Joint (λ v. constant_of x ≡ Some v) (λ v. With (is_integer (type_of x))
    (λ u. u ≡ with_value (integer_size b) v f)) g

abbrev pub IntegerFault : ℕ → AnExpression → Fault → Type 0
IntegerFault place x f = FirstOf (λ v. constant_of x ≡ Some v) (NoRow (λ v. constant_of x ≡ Some v) place BadConst)
    (λ v. Lacking (is_integer (type_of x)) place BadType Never) f

-- a pointer's initialiser: an object's address of its own type
abbrev pub IsAddressValue : CType → AnExpression → List Object → Filled → Filled → Type 0
IsAddressValue t x objects f g = Joint (λ n. linked x ≡ Some n) (λ n. With (same_type t (type_of x)) (λ u. u ≡ with_link objects n f)) g

abbrev pub AddressFault : CType → ℕ → AnExpression → Fault → Type 0
AddressFault t place x f = FirstOf (λ n. linked x ≡ Some n) (NoRow (λ n. linked x ≡ Some n) place BadConst)
    (λ n. Lacking (same_type t (type_of x)) place BadType Never) f

-- or the null constant
pub data IsPointerValue (t : CType) (x : AnExpression) (objects : List Object) (f g : Filled) : Type 0 where
  Null : (null : is_null x ≡ true) (is : g ≡ with_value 4 0 f) → IsPointerValue t x objects f g
  Address : (other : is_null x ≡ false) (address : IsAddressValue t x objects f g) → IsPointerValue t x objects f g

pub record PointerFault (t : CType) (place : ℕ) (x : AnExpression) (f : Fault) : Type 0 where
  pub other : is_null x ≡ false
  pub address : AddressFault t place x f

-- what one initialiser adds to the bytes and links that are written
abbrev pub IsWritten : CType → AnExpression → List Object → Filled → Filled → Type 0
IsWritten types.Void x objects f g = ⊥
IsWritten (types.Integer b) x objects f g = IsIntegerValue b x f g
IsWritten (types.Pointer b n) x objects f g = IsPointerValue (types.Pointer b n) x objects f g

abbrev pub WrittenFault : CType → ℕ → AnExpression → Fault → Type 0
WrittenFault types.Void place x f = IsFault place BadType f
WrittenFault (types.Integer b) place x f = IntegerFault place x f
WrittenFault (types.Pointer b n) place x f = PointerFault (types.Pointer b n) place x f

-- names of the functions that are defined in the text, and their signatures
module _ (names : List (List ℕ × Entry)) (signatures : List Signature) (scope : Scope) where
  -- a length in brackets: a constant from 1 to `AREA_LIMIT`
  abbrev pub IsLength : AnExp → Area → ℕ × Area → Type 0
  IsLength e a r = Joint (IsTyped names signatures scope e a) (λ x. Joint (λ n. length_of x.0 ≡ Some n) (λ n u. u ≡ (n, x.1))) r

  abbrev pub LengthFault : AnExp → Area → Fault → Type 0
  LengthFault e a f = FirstOf (IsTyped names signatures scope e a) (FirstFault names signatures scope e a)
      (λ x. FirstOf (λ n. length_of x.0 ≡ Some n) (NoRow (λ n. length_of x.0 ≡ Some n) (first e) BadConst) (λ n. Never)) f

  -- one value of an object, behind those that are written
  abbrev pub IsElement : CType → AnExp → Filled × Area → Filled × Area → Type 0
  IsElement t e s r = Joint (IsTyped names signatures scope e s.1) (λ x. Joint (IsWritten t x.0 x.1.objects s.0) (λ f u. u ≡ (f, x.1))) r

  abbrev pub ElementFault : CType → AnExp → Filled × Area → Fault → Type 0
  ElementFault t e s f = FirstOf (IsTyped names signatures scope e s.1) (FirstFault names signatures scope e s.1)
      (λ x. FirstOf (IsWritten t x.0 x.1.objects s.0) (WrittenFault t (first e) x.0) (λ g. Never)) f

  -- the values of a list, from left to right
  abbrev pub AreElements : CType → SomeExps → Filled × Area → Filled × Area → Type 0
  AreElements t no_exps s r = r ≡ s
  AreElements t (exps e es) s r = Joint (IsElement t e s) (AreElements t es) r

  abbrev pub ElementsFault : CType → SomeExps → Filled × Area → Fault → Type 0
  ElementsFault t no_exps s f = ⊥
  ElementsFault t (exps e es) s f = FirstOf (IsElement t e s) (ElementFault t e s) (ElementsFault t es) f
