-- Lengths and values of objects: the definition's answer is what the relations say.
use Rattle.std.proofs.Common.{◌≡◌, ℕ, Bool, true, false, List, Ok, refl, ap}
use Rattle.std.specs.Prelude.{if◌then◌else◌}
use Rattle.c_typed_definition.specs.tree_core.specs.declared.program.Object.{Object}
use Rattle.c_types.specs.declared.types.CType.{CType}
use Rattle.c_types.specs.declared.types.CType.TheVariants as types
use Rattle.c_types.specs.declared.types.Integer.{Integer}
use Rattle.c_types.specs.declared.fault.TypeKind.TheVariants.{BadType}
use Rattle.c_types.specs.Types.{same_type, integer_size, is_integer}
use Rattle.c_types.specs.Typed.{AnExpression, type_of, is_null}
use Rattle.c_types.specs.Constants.{constant_of}
use Rattle.c_typed_definition.specs.c_typed_operators.specs.Table.{Means}
use Rattle.c_typed_scope.specs.declared.entry.Entry.{Entry}
use Rattle.c_typed_scope.specs.declared.entry.Signature.{Signature}
use Rattle.c_typed_scope.specs.Scopes.{Scope}
use Rattle.c_typed_scope.specs.Layout.{Area}
use Rattle.c_typed_scope.specs.Contents.{length_of, linked, Filled, with_value, with_link, integer_element, linked_element, element_of}
use Rattle.c_phrases.specs.Phrases.{AnExp, SomeExps, no_exps, exps}
use Rattle.c_typed_definition.specs.c_typed_expressions.specs.Phrases.{first}
use Rattle.c_typed_definition.specs.c_typed_expressions.proofs.Law.{means_then, means_ok, exp_means}
use Rattle.c_typed_definition.specs.Initialisers.{type_length, type_element, type_elements}
use Rattle.c_typed_law.specs.Values.{IsIntegerValue, IntegerFault, IsAddressValue, AddressFault, IsPointerValue, Null, Address, PointerFault, IsWritten, WrittenFault, IsLength}
use Rattle.c_typed_law.specs.Values.{LengthFault, IsElement, ElementFault, AreElements, ElementsFault}
use Rattle.c_typed_law.proofs.Combined.{means_bad, with_means, wanted_means}

integer_means : (b : Integer) (place : ℕ) (x : AnExpression) (f : Filled) → Means (integer_element b place x f) (IsIntegerValue b x f) (IntegerFault place x)
integer_means b place x f = means_then _ _ _ _ _ _ (wanted_means (constant_of x) place) (λ v. with_means (is_integer (type_of x)) place BadType _ _ _ (means_ok (with_value (integer_size b) v f)))

linked_means : (t : CType) (place : ℕ) (x : AnExpression) (objects : List Object) (f : Filled) → Means (linked_element t place x objects f) (IsAddressValue t x objects f) (AddressFault t place x)
linked_means t place x objects f = means_then _ _ _ _ _ _ (wanted_means (linked x) place) (λ n. with_means (same_type t (type_of x)) place BadType _ _ _ (means_ok (with_link objects n f)))

null_only : (t : CType) (x : AnExpression) (objects : List Object) (f g : Filled) → is_null x ≡ true → IsPointerValue t x objects f g → with_value 4 0 f ≡ g
null_only t x objects f g null (Null h is) = cc
null_only t x objects f g null (Address other address) = absurd (cc)

other_only : (t : CType) (place : ℕ) (x : AnExpression) (objects : List Object) (f g : Filled) → is_null x ≡ false → IsPointerValue t x objects f g → linked_element t place x objects f ≡ Ok g
other_only t place x objects f g other (Null h is) = absurd (cc)
other_only t place x objects f g other (Address h address) = (linked_means t place x objects f).only g address

pointer_by : (null : Bool) (t : CType) (place : ℕ) (x : AnExpression) (objects : List Object) (f : Filled) → is_null x ≡ null
    → Means (if null then Ok (with_value 4 0 f) else linked_element t place x objects f) (IsPointerValue t x objects f) (PointerFault t place x)
pointer_by true t place x objects f is = record {
  found = λ g e. Null is (cc);
  only = λ g r. ap Ok (null_only t x objects f g is r);
  faults = λ g e. absurd (cc);
  first = λ g w. absurd (cc (w.other));
}
pointer_by false t place x objects f is = record {
  found = λ g e. Address is ((linked_means t place x objects f).found g e);
  only = λ g r. other_only t place x objects f g is r;
  faults = λ g e. record { other = is; address = (linked_means t place x objects f).faults g e };
  first = λ g w. (linked_means t place x objects f).first g w.address;
}

written_means : (t : CType) (place : ℕ) (x : AnExpression) (objects : List Object) (f : Filled) → Means (element_of t place x objects f) (IsWritten t x objects f) (WrittenFault t place x)
unfolding element_of
written_means types.Void place x objects f = means_bad place BadType
written_means (types.Integer b) place x objects f = integer_means b place x f
written_means (types.Pointer b n) place x objects f = pointer_by (is_null x) (types.Pointer b n) place x objects f refl

module _ (names : List (List ℕ × Entry)) (signatures : List Signature) (scope : Scope) where
  pub length_means : (e : AnExp) (a : Area) → Means (type_length names signatures scope e a) (IsLength names signatures scope e a) (LengthFault names signatures scope e a)
  unfolding type_length
  length_means e a = means_then _ _ _ _ _ _ (exp_means names signatures scope e a) (λ x. means_then _ _ _ _ _ _ (wanted_means (length_of x.0) (first e)) (λ n. means_ok (n, x.1)))

  pub element_means : (t : CType) (e : AnExp) (s : Filled × Area) → Means (type_element names signatures scope t e s) (IsElement names signatures scope t e s)
      (ElementFault names signatures scope t e s)
  unfolding type_element
  element_means t e s = means_then _ _ _ _ _ _ (exp_means names signatures scope e s.1) (λ x. means_then _ _ _ _ _ _ (written_means t (first e) x.0 x.1.objects s.0) (λ f. means_ok (f, x.1)))

  pub elements_mean : (t : CType) (es : SomeExps) (s : Filled × Area) → Means (type_elements names signatures scope t es s) (AreElements names signatures scope t es s)
      (ElementsFault names signatures scope t es s)
  elements_mean t no_exps s = means_ok s
  elements_mean t (exps e es) s = means_then _ _ _ _ _ _ (element_means t e s) (λ next. elements_mean t es next)
