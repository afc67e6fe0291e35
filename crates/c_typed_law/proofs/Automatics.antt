-- Declarations of automatic variables: the definition's answer is what the relations say.
use Rattle.std.proofs.Common.{ℕ, ◌+◌, ◌-◌, ◌*◌, Bool, true, false, List, [], ◌∷◌, ◌++◌, length, Option, Some, None}
use Rattle.std.specs.Prelude.{not, ◌&&◌}
use Rattle.c_phrases.specs.declared.operator.Spec.{Spec}
use Rattle.c_phrases.specs.declared.operator.Storage.{Storage}
use Rattle.c_phrases.specs.declared.operator.Storage.TheVariants as storages
use Rattle.c_types.specs.declared.types.CType.{CType}
use Rattle.c_types.specs.declared.fault.TypeKind.TheVariants.{Twice, BadInit, BadType}
use Rattle.c_types.specs.Types.{size_of}
use Rattle.c_types.specs.Typed.{Constant}
use Rattle.c_typed_definition.specs.c_typed_operators.specs.Table.{Means}
use Rattle.c_typed_scope.specs.declared.entry.Entry.{Entry}
use Rattle.c_typed_scope.specs.declared.entry.Signature.{Signature}
use Rattle.c_typed_scope.specs.Scopes.{Scope, is_taken}
use Rattle.c_phrases.specs.Phrases.{AnExp, SomeExps, no_exps, exps}
use Rattle.c_phrases.specs.Units.{AnInit, value, elements, ADeclarator}
use Rattle.c_typed_definition.specs.c_program.specs.Statements.{ADeclaration, KeepOf, ClearOf, BeginOf, StoreOf}
use Rattle.c_typed_definition.specs.c_typed_expressions.specs.Phrases.{first, init_in, brackets_in}
use Rattle.c_typed_definition.specs.c_typed_expressions.specs.Expressions.{written}
use Rattle.c_typed_definition.specs.c_typed_expressions.proofs.Law.{means_then, means_ok, exp_means}
use Rattle.c_typed_definition.specs.Forms.{text_of, form_fits, given_count, own_length, is_automatic, automatic_form}
use Rattle.c_typed_definition.specs.Rooms.{offset_in, is_next_addressed}
use Rattle.c_typed_definition.specs.State.{State, with_area, with_local, with_register}
use Rattle.c_typed_definition.specs.Automatics.{memory_variable, memory_array, zeros, text_stored, type_value, begun, type_store}
use Rattle.c_typed_definition.specs.Automatics.{memory_begun, type_stores, array_begun, automatic_length}
use Rattle.c_typed_definition.specs.Automatics.{automatic_array, automatic_variable, automatic_by, type_automatic, type_local, type_locals}
use Rattle.c_typed_law.specs.Tests.{Never}
use Rattle.c_typed_law.specs.Forms.{IsAutomaticForm, AutomaticFormFault}
use Rattle.c_typed_law.specs.Arrays.{IsGiven, GivenFault, IsStored, AreStored, StoredFault, IsArrayBegun, ArrayBegunFault}
use Rattle.c_typed_law.specs.Arrays.{IsAutomaticLength, AutomaticLengthFault, IsArray, ArrayFault}
use Rattle.c_typed_law.specs.Locals.{IsBegun, BegunFault, IsMemoryBegun, IsVariable, VariableFault, IsAutomaticBy, AutomaticFaultBy}
use Rattle.c_typed_law.specs.Locals.{IsAutomatic, AutomaticFault, IsLocal, LocalFault, AreLocals, LocalsFault}
use Rattle.c_typed_definition.specs.c_typed_expressions.specs.Relations.{FirstOf}
use Rattle.c_typed_law.proofs.Combined.{unless_means, with_means}
use Rattle.c_typed_law.proofs.Values.{length_means}
use Rattle.c_typed_law.proofs.Objects.{many_means, given_means, object_means}

automatic_form_means : (is_register : Bool) (d : ADeclarator) (t : CType) (s : Scope)
    → Means (automatic_form is_register d t s) (IsAutomaticForm is_register d t s) (AutomaticFormFault is_register d t s)
unfolding automatic_form
automatic_form_means is_register d t s =
    unless_means (is_taken s d.name) d.at Twice _ _ _
    (with_means (form_fits t (brackets_in d.length) (init_in d.init)) d.at BadInit _ _ _
    (with_means (is_automatic is_register (brackets_in d.length) t) d.at BadType _ _ _ (means_ok tt)))

module _ (names : List (List ℕ × Entry)) (signatures : List Signature) where
  value_means : (t : CType) (e : AnExp) (s : State) → Means (type_value names signatures t e s) (IsGiven names signatures t e s) (GivenFault names signatures t e s)
  value_means t e s =
      means_then _ _ _ _ _ _ (exp_means names signatures s.scope e s.area) (λ x. means_then _ _ _ _ _ _ (given_means t (first e) x.0) (λ y. means_ok (y, with_area x.1 s)))

  begun_means : (t : CType) (n : ℕ) (i : Option AnInit) (done : List ADeclaration) (s : State)
      → Means (begun names signatures t n i done s) (IsBegun names signatures t n i done s) (BegunFault names signatures t i s)
  begun_means t n None done s = means_ok (done ++ ClearOf n ∷ [], s)
  begun_means t n (Some (elements es comma)) done s = means_ok (done ++ ClearOf n ∷ [], s)
  begun_means t n (Some (value e)) done s = means_then _ _ _ _ _ _ (value_means t e s) (λ x. means_ok (done ++ BeginOf n x.0 ∷ [], x.1))

  store_means : (t : CType) (o : ℕ) (e : AnExp) (done : List ADeclaration) (s : State)
      → Means (type_store names signatures t o e done s) (IsStored names signatures t o e done s)
      (FirstOf (IsGiven names signatures t e s) (GivenFault names signatures t e s) (λ x. Never))
  store_means t o e done s = means_then _ _ _ _ _ _ (value_means t e s) (λ x. means_ok (done ++ StoreOf t o x.0 ∷ [], x.1))

  memory_begun_means : (t : CType) (o : ℕ) (i : Option AnInit) (done : List ADeclaration) (s : State)
      → Means (memory_begun names signatures t o i done s) (IsMemoryBegun names signatures t o i done s) (BegunFault names signatures t i s)
  memory_begun_means t o None done s = means_ok (done ++ StoreOf t o (Constant 0) ∷ [], s)
  memory_begun_means t o (Some (elements es comma)) done s = means_ok (done ++ StoreOf t o (Constant 0) ∷ [], s)
  memory_begun_means t o (Some (value e)) done s = store_means t o e (done ++ StoreOf t o (Constant 0) ∷ []) s

  stores_mean : (t : CType) (o : ℕ) (es : SomeExps) (done : List ADeclaration) (s : State)
      → Means (type_stores names signatures t o es done s) (AreStored names signatures t o es done s) (StoredFault names signatures t o es done s)
  stores_mean t o no_exps done s = means_ok (done, s)
  stores_mean t o (exps e es) done s = means_then _ _ _ _ _ _ (store_means t o e done s) (λ x. stores_mean t (o + size_of t) es x.0 x.1)

  array_begun_means : (t : CType) (o : ℕ) (i : Option AnInit) (done : List ADeclaration) (s : State)
      → Means (array_begun names signatures t o i done s) (IsArrayBegun names signatures t o i done s) (ArrayBegunFault names signatures t o i done s)
  array_begun_means t o None done s = means_ok (done, s)
  array_begun_means t o (Some (elements es comma)) done s = stores_mean t o es done s
  array_begun_means t o (Some (value e)) done s = means_ok (done ++ text_stored t o (text_of e), s)

  length_is : (l : Option AnExp) (i : Option AnInit) (s : State)
      → Means (automatic_length names signatures l i s) (IsAutomaticLength names signatures l i s) (AutomaticLengthFault names signatures l i s)
  length_is None i s = means_ok (own_length i, s)
  length_is (Some e) i s = means_then _ _ _ _ _ _ (length_means names signatures s.scope e s.area) (λ x. means_ok (x.0, with_area x.1 s))

  array_means : (t : CType) (d : ADeclarator) (l : Option AnExp) (done : List ADeclaration) (s : State)
      → Means (automatic_array names signatures t d l done s) (IsArray names signatures t d l done s) (ArrayFault names signatures t d l done s)
  unfolding automatic_array
  array_means t d l done s =
      means_then _ _ _ _ _ _ (length_is l (init_in d.init) s)
      (λ m. means_then _ _ _ _ _ _ (many_means d.at (given_count (init_in d.init)) m.0)
      (λ n. means_then _ _ _ _ _ _ (array_begun_means t (offset_in (size_of t) m.1.room) (init_in d.init) done (memory_array t (n * size_of t) d m.1))
      (λ x. means_ok (x.0 ++ zeros t (offset_in (size_of t) m.1.room + given_count (init_in d.init) * size_of t) (n - given_count (init_in d.init)), x.1))))

  variable_means : (in_memory : Bool) (t : CType) (d : ADeclarator) (done : List ADeclaration) (s : State)
      → Means (automatic_variable names signatures in_memory t d done s) (IsVariable names signatures in_memory t d done s) (VariableFault names signatures in_memory t d s)
  unfolding automatic_variable
  variable_means true t d done s = memory_begun_means t (offset_in (size_of t) s.room) (init_in d.init) done (memory_variable t d s)
  variable_means false t d done s = begun_means t (length s.locals) (init_in d.init) done (with_local t d.name s)

  automatic_by_means : (l : Option (Option AnExp)) (is_register : Bool) (t : CType) (d : ADeclarator) (done : List ADeclaration) (s : State)
      → Means (automatic_by names signatures l is_register t d done s) (IsAutomaticBy names signatures l is_register t d done s)
      (AutomaticFaultBy names signatures l is_register t d done s)
  automatic_by_means None is_register t d done s = variable_means (not is_register && is_next_addressed s.room) t d done s
  automatic_by_means (Some l) is_register t d done s = array_means t d l done s

  automatic_means : (is_register : Bool) (spec : Spec) (d : ADeclarator) (done : List ADeclaration) (s : State)
      → Means (type_automatic names signatures is_register spec d done s) (IsAutomatic names signatures is_register spec d done s)
      (AutomaticFault names signatures is_register spec d done s)
  unfolding type_automatic
  automatic_means is_register spec d done s =
      means_then _ _ _ _ _ _ (automatic_form_means is_register d (written spec d.stars) s.scope)
      (λ ok. automatic_by_means (brackets_in d.length) is_register (written spec d.stars) d done s)

  local_means : (storage : Storage) (spec : Spec) (d : ADeclarator) (done : List ADeclaration) (s : State)
      → Means (type_local names signatures storage spec d done s) (IsLocal names signatures storage spec d done s) (LocalFault names signatures storage spec d done s)
  local_means storages.Automatic spec d done s = automatic_means false spec d done s
  local_means (storages.Register at) spec d done s = automatic_means true spec d done (with_register s)
  local_means (storages.Static at) spec d done s = means_then _ _ _ _ _ _ (object_means names signatures true spec d s) (λ x. means_ok (done ++ KeepOf x.0 ∷ [], x.1))

  pub locals_mean : (storage : Storage) (spec : Spec) (ds : List ADeclarator) (done : List ADeclaration) (s : State)
      → Means (type_locals names signatures storage spec ds done s) (AreLocals names signatures storage spec ds done s) (LocalsFault names signatures storage spec ds done s)
  locals_mean storage spec [] done s = means_ok (done, s)
  locals_mean storage spec (d ∷ ds) done s = means_then _ _ _ _ _ _ (local_means storage spec d done s) (λ x. locals_mean storage spec ds x.0 x.1)
