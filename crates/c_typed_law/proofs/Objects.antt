-- Declarations of variables: the definition's answer is what the relations say.
use Rattle.std.proofs.Common.{◌≡◌, ℕ, ◌*◌, Bool, true, false, List, [], Option, Some, None}
use Rattle.std.specs.Prelude.{nat_lt}
use Rattle.c_phrases.specs.declared.operator.Spec.{Spec}
use Rattle.c_types.specs.declared.types.CType.{CType}
use Rattle.c_types.specs.declared.fault.TypeKind.TheVariants.{Twice, BadInit, BadType}
use Rattle.c_types.specs.Types.{size_of, pointer_to, is_scalar}
use Rattle.c_types.specs.Typed.{AnExpression, ConvertTo}
use Rattle.c_typed_definition.specs.c_typed_operators.specs.Rules.{fits}
use Rattle.c_typed_definition.specs.c_typed_operators.specs.Stores.{given}
use Rattle.c_typed_definition.specs.c_typed_operators.specs.Table.{Means}
use Rattle.c_typed_scope.specs.declared.entry.Entry.{Entry}
use Rattle.c_typed_scope.specs.declared.entry.Entry.TheVariants as entries
use Rattle.c_typed_scope.specs.declared.entry.Signature.{Signature}
use Rattle.c_typed_scope.specs.Scopes.{Scope, is_taken, with_name}
use Rattle.c_typed_scope.specs.Layout.{Area}
use Rattle.c_typed_scope.specs.Contents.{filled_to, filled}
use Rattle.c_phrases.specs.Phrases.{AnExp}
use Rattle.c_phrases.specs.Units.{AnInit, value, elements, ADeclarator}
use Rattle.c_typed_definition.specs.c_typed_expressions.specs.Phrases.{init_in, brackets_in}
use Rattle.c_typed_definition.specs.c_typed_expressions.specs.Expressions.{written}
use Rattle.c_typed_definition.specs.c_typed_expressions.proofs.Law.{means_then, means_ok, means_is, exp_means}
use Rattle.c_typed_definition.specs.Forms.{text_of, form_fits, given_count, own_length, form_of, many}
use Rattle.c_typed_definition.specs.State.{State, with_area, named_state, measuring, variable_of, array_entry, laid, text_contents}
use Rattle.c_typed_definition.specs.Declarations.{length_in, literals_in, contents_of, object_with, plain_object}
use Rattle.c_typed_definition.specs.Declarations.{counted_array, array_object, object_by, type_object}
use Rattle.c_typed_law.specs.Tests.{With, Without, Lacking, Never}
use Rattle.c_typed_law.specs.Forms.{IsForm, FormFault}
use Rattle.c_typed_law.specs.Objects.{IsCount, CountFault, AreLaid, LaidFault, HoldsAtFirst, HoldsFault, IsFilled}
use Rattle.c_typed_law.specs.Objects.{FilledFault, IsPlainObject, PlainObjectFault, IsCountedArray, CountedArrayFault}
use Rattle.c_typed_law.specs.Objects.{IsArrayObject, ArrayObjectFault, IsObjectBy, ObjectFaultBy, IsObject}
use Rattle.c_typed_law.specs.Objects.{ObjectFault}
use Rattle.c_typed_definition.specs.c_typed_expressions.specs.Relations.{Unless}
use Rattle.c_typed_law.proofs.Combined.{unless_means, with_means}
use Rattle.c_typed_law.proofs.Values.{length_means, element_means, elements_mean}

form_means : (d : ADeclarator) (t : CType) (s : Scope) → Means (form_of d t s) (IsForm d t s) (FormFault d t s)
unfolding form_of
form_means d t s =
    unless_means (is_taken s d.name) d.at Twice _ _ _
    (with_means (form_fits t (brackets_in d.length) (init_in d.init)) d.at BadInit _ _ _ (with_means (is_scalar t) d.at BadType _ _ _ (means_ok tt)))

pub many_means : (at count n : ℕ) → Means (many at count n) (Without (nat_lt n count) (λ m. m ≡ n)) (Unless (nat_lt n count) at BadInit Never)
unfolding many
many_means at count n = unless_means (nat_lt n count) at BadInit _ _ _ (means_ok n)

-- a value is given to a type that takes it
pub given_means : (t : CType) (place : ℕ) (x : AnExpression) → Means (given t place x) (With (fits t x) (λ y. y ≡ ConvertTo t x)) (Lacking (fits t x) place BadType Never)
unfolding given
given_means t place x = with_means (fits t x) place BadType _ _ _ (means_ok (ConvertTo t x))

module _ (names : List (List ℕ × Entry)) (signatures : List Signature) where
  count_means : (l : Option AnExp) (i : Option AnInit) (scope : Scope) (a : Area)
      → Means (length_in names signatures l i scope a) (IsCount names signatures l i scope a) (CountFault names signatures l i scope a)
  count_means None i scope a = means_ok (own_length i, a)
  count_means (Some e) i scope a = means_then _ _ _ _ _ _ (length_means names signatures scope e (measuring true a)) (λ x. means_ok (x.0, measuring false x.1))

  laid_means : (l : Option AnExp) (scope : Scope) (a : Area) → Means (literals_in names signatures l scope a) (AreLaid names signatures l scope a) (LaidFault names signatures l scope a)
  laid_means None scope a = means_ok a
  laid_means (Some e) scope a = means_then _ _ _ _ _ _ (exp_means names signatures scope e a) (λ x. means_ok (x.1))

  holds_means : (t : CType) (is_array : Bool) (i : Option AnInit) (scope : Scope) (a : Area)
      → Means (contents_of names signatures t is_array i scope a) (HoldsAtFirst names signatures t is_array i scope a) (HoldsFault names signatures t is_array i scope a)
  holds_means t is_array None scope a = means_ok (record { bytes = []; links = [] }, a)
  holds_means t is_array (Some (elements es comma)) scope a = elements_mean names signatures scope t es (record { bytes = []; links = [] }, a)
  holds_means t true (Some (value e)) scope a = means_ok (text_contents (text_of e), a)
  holds_means t false (Some (value e)) scope a = element_means names signatures scope t e (record { bytes = []; links = [] }, a)

  filled_means : (n size : ℕ) (t : CType) (is_array : Bool) (d : ADeclarator) (e : Entry) (s : State)
      → Means (object_with names signatures n size t is_array d e s) (IsFilled names signatures n size t is_array d e s) (FilledFault names signatures n size t is_array d e s)
  unfolding object_with
  filled_means n size t is_array d e s =
      means_then _ _ _ _ _ _
      (means_then _ _ _ _ _ _ (holds_means t is_array (init_in d.init) (with_name d.name e s.scope) s.area) (λ h. means_ok (filled n (filled_to size h.0) h.1)))
      (λ a. means_ok (n, with_area a (named_state d.name e s)))

  plain_object_means : (is_static : Bool) (t : CType) (d : ADeclarator) (s : State)
      → Means (plain_object names signatures is_static t d s) (IsPlainObject names signatures is_static t d s) (PlainObjectFault names signatures is_static t d s)
  unfolding plain_object
  plain_object_means is_static t d s =
      means_then _ _ _ _ _ _ (means_is (laid is_static d.at d.name (size_of t) (size_of t) s.area))
      (λ l. filled_means l.0 (size_of t) t false d (entries.Variable t (variable_of is_static l.0)) (with_area l.1 s))

  counted_array_means : (is_static : Bool) (t : CType) (d : ADeclarator) (e : Option AnExp) (n : ℕ) (s : State)
      → Means (counted_array names signatures is_static t d e n s) (IsCountedArray names signatures is_static t d e n s) (CountedArrayFault names signatures is_static t d e n s)
  unfolding counted_array
  counted_array_means is_static t d e n s =
      means_then _ _ _ _ _ _ (means_is (laid is_static d.at d.name (size_of t) (n * size_of t) s.area))
      (λ l. means_then _ _ _ _ _ _ (laid_means e s.scope l.1)
      (λ a. filled_means l.0 (n * size_of t) t true d (array_entry (pointer_to t) (variable_of is_static l.0) (n * size_of t)) (with_area a s)))

  array_object_means : (is_static : Bool) (t : CType) (d : ADeclarator) (e : Option AnExp) (s : State)
      → Means (array_object names signatures is_static t d e s) (IsArrayObject names signatures is_static t d e s) (ArrayObjectFault names signatures is_static t d e s)
  unfolding array_object
  array_object_means is_static t d e s =
      means_then _ _ _ _ _ _ (count_means e (init_in d.init) s.scope s.area)
      (λ m. means_then _ _ _ _ _ _ (many_means d.at (given_count (init_in d.init)) m.0) (λ n. counted_array_means is_static t d e n (with_area m.1 s)))

  object_by_means : (is_static : Bool) (t : CType) (d : ADeclarator) (l : Option (Option AnExp)) (s : State)
      → Means (object_by names signatures is_static t d l s) (IsObjectBy names signatures is_static t d l s) (ObjectFaultBy names signatures is_static t d l s)
  object_by_means is_static t d None s = plain_object_means is_static t d s
  object_by_means is_static t d (Some e) s = array_object_means is_static t d e s

  pub object_means : (is_static : Bool) (spec : Spec) (d : ADeclarator) (s : State)
      → Means (type_object names signatures is_static spec d s) (IsObject names signatures is_static spec d s) (ObjectFault names signatures is_static spec d s)
  unfolding type_object
  object_means is_static spec d s =
      means_then _ _ _ _ _ _ (form_means d (written spec d.stars) s.scope) (λ ok. object_by_means is_static (written spec d.stars) d (brackets_in d.length) s)
