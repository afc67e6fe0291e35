-- Functions and whole texts: the definition's answer is what the relations say.
use Rattle.std.proofs.Common.{◌≡◌, ℕ, ◌+◌, Bool, true, false, List, [], ◌∷◌, length, Option, Some, None, Ok, Err, refl, sym, ap}
use Rattle.std.specs.Prelude.{nat_lt, ◌&&◌, is_some, slice_get, if◌then◌else◌}
use Rattle.c_phrases.specs.declared.operator.Spec.{Spec}
use Rattle.c_phrases.specs.declared.tree.Named.{Named}
use Rattle.c_types.specs.declared.types.Integer.{Integer}
use Rattle.c_types.specs.declared.fault.TypeKind.TheVariants.{Twice, BadType, DataFull, NoMain}
use Rattle.c_types.specs.Answers.{bad, ◌>>=◌}
use Rattle.c_types.specs.Types.{is_scalar}
use Rattle.c_typed_definition.specs.c_typed_operators.specs.Table.{Means, NoRow}
use Rattle.c_typed_scope.specs.declared.entry.Entry.{Entry}
use Rattle.c_typed_scope.specs.declared.entry.Entry.TheVariants as entries
use Rattle.c_typed_scope.specs.declared.entry.Signature.{Signature}
use Rattle.c_typed_scope.specs.Scopes.{Scope, find, is_taken}
use Rattle.c_typed_scope.specs.Layout.{Area}
use Rattle.c_phrases.specs.Phrases.{AnExp}
use Rattle.c_phrases.specs.Units.{SomeItems, ADeclarator, AParam, AFunction, ADeclared, function, globals, AnExternal}
use Rattle.c_typed_definition.specs.c_typed_expressions.specs.Phrases.{params_in, brackets_in}
use Rattle.c_typed_definition.specs.c_typed_expressions.specs.Expressions.{integer_of, written}
use Rattle.c_typed_definition.specs.c_program.specs.Programs.{ARoutine}
use Rattle.c_typed_definition.specs.c_typed_expressions.specs.Relations.{Joint, Unless}
use Rattle.c_typed_definition.specs.c_typed_expressions.proofs.Law.{means_then, means_ok, means_is}
use Rattle.c_typed_definition.specs.State.{State, with_area}
use Rattle.c_typed_definition.specs.Signatures.{parameter_type, signature_of, known}
use Rattle.c_typed_definition.specs.Headings.{Text, with_state, same_signature, earlier_by, is_below, head_by}
use Rattle.c_typed_definition.specs.Headings.{head_of, word_of, parameter_form, with_parameter, agrees_by}
use Rattle.c_typed_definition.specs.Headings.{agrees_with, agrees, with_declared, with_body}
use Rattle.c_typed_definition.specs.Rooms.{Room}
use Rattle.c_typed_definition.specs.Bodies.{fits_stack, end_in, routine_of, entered_function, left_function}
use Rattle.c_typed_definition.specs.Texts.{parameter_length, type_parameter, type_parameters, type_body}
use Rattle.c_typed_definition.specs.Texts.{type_introduced, type_function, type_globals, type_declared}
use Rattle.c_typed_definition.specs.Texts.{type_externals, main_of, any_block, stacked_if, whole_by, whole, empty_text, type_text}
use Rattle.c_typed_law.specs.Headings.{IsEarlier, EarlierFault, IsResult, ResultFault, IsHead, HeadFault}
use Rattle.c_typed_law.specs.Headings.{IsParameterForm, ParameterFormFault, IsSameAs, SameFault, AgreesWith}
use Rattle.c_typed_law.specs.Headings.{DisagreesWith, Agrees, AgreesFault}
use Rattle.c_typed_law.specs.Texts.{IsParameterLength, ParameterLengthFault, IsParameter, ParameterFault}
use Rattle.c_typed_law.specs.Texts.{AreParameters, ParametersFault, IsBody, BodyFault, IsIntroduced, IntroducedFault}
use Rattle.c_typed_law.specs.Texts.{IsFunction, FunctionFault, AreGlobals, GlobalsFault, IsExternalBy}
use Rattle.c_typed_law.specs.Texts.{ExternalFaultBy, AreExternals, ExternalsFault, IsText, TextFault}
use Rattle.c_typed_law.specs.Wholes.{IsWhole, WholeFault}
use Rattle.c_typed_law.specs.Tests.{Without, Never}
use Rattle.c_typed_law.proofs.Combined.{means_bad, unless_means, with_means}
use Rattle.c_typed_law.proofs.Values.{length_means}
use Rattle.c_typed_law.proofs.Objects.{object_means}
use Rattle.c_typed_law.proofs.Statements.{items_mean}

earlier_means : (e : Option Entry) (at : ℕ) → Means (earlier_by e at) (IsEarlier e) (EarlierFault e at)
earlier_means None at = means_ok None
earlier_means (Some (entries.Function k)) at = means_ok (Some k)
earlier_means (Some (entries.Variable t v)) at = means_bad at Twice
earlier_means (Some (entries.Array t v size)) at = means_bad at Twice

result_means : (b : Option Integer) (stars : List ℕ) (at : ℕ) → Means (head_by b stars at) (IsResult b stars) (ResultFault b stars at)
result_means (Some b) stars at = means_ok tt
result_means None [] at = means_ok tt
result_means None (s ∷ ss) at = means_bad at BadType

head_means : (defines defined : Bool) (b : Option Integer) (stars : List ℕ) (at : ℕ)
    → Means (head_of defines defined b stars at) (IsHead defines defined b stars) (HeadFault defines defined b stars at)
unfolding head_of
head_means defines defined b stars at = unless_means (defines && defined) at Twice _ _ _ (result_means b stars at)

parameter_form_means : (n : Option Named) (defines : Bool) (at : ℕ) (p : AParam) (s : Scope)
    → Means (parameter_form n defines at p s) (IsParameterForm n defines p s) (ParameterFormFault n defines at p s)
parameter_form_means (Some n) defines at p s = unless_means (is_taken s n.name) n.at Twice _ _ _ (with_means (is_scalar (written p.spec p.stars)) n.at BadType _ _ _ (means_ok tt))
parameter_form_means None defines at p s = with_means (is_scalar (written p.spec p.stars)) (word_of p.spec) BadType _ _ _ (unless_means defines at BadType _ _ _ (means_ok tt))

same_means : (s : Option Signature) (mine : Signature) (at : ℕ) → Means (agrees_by s mine at) (IsSameAs s mine) (SameFault s mine at)
same_means None mine at = means_ok tt
same_means (Some s) mine at = with_means (same_signature s mine) at BadType _ _ _ (means_ok tt)

agrees_with_means : (earlier : Option ℕ) (declared : List Signature) (mine : Signature) (at : ℕ)
    → Means (agrees_with earlier declared mine at) (AgreesWith earlier declared mine) (DisagreesWith earlier declared mine at)
agrees_with_means None declared mine at = means_ok tt
agrees_with_means (Some n) declared mine at = same_means (slice_get declared n) mine at

agrees_means : (earlier : Option ℕ) (declared : List Signature) (mine : Signature) (at : ℕ)
    → Means (agrees earlier declared mine at) (Agrees earlier declared mine) (AgreesFault earlier declared mine at)
unfolding agrees
agrees_means earlier declared mine at = unless_means (nat_lt 32 (length mine.parameters)) at BadType _ _ _ (agrees_with_means earlier declared mine at)

-- a test that refuses, and then one answer
tested_means : (test : Bool) (at : ℕ) (t : Text)
    → Means ((if test then bad at DataFull else Ok (tt {0})) >>= λ ok. Ok t) (Without test (λ u. u ≡ t)) (Unless test at DataFull Never)
tested_means true at t = unless_means true at DataFull (Ok t) _ _ (means_ok t)
tested_means false at t = unless_means false at DataFull (Ok t) _ _ (means_ok t)

-- the memory locals of a function are no more than the stack has room for
room_means : (at : ℕ) (room : Room) (t : Text)
    → Means (fits_stack at room >>= λ ok. Ok t) (Without (nat_lt 262144 room.length) (λ u. u ≡ t)) (Unless (nat_lt 262144 room.length) at DataFull Never)
unfolding fits_stack
room_means at room t = tested_means (nat_lt 262144 room.length) at t

module _ (names : List (List ℕ × Entry)) (signatures : List Signature) where
  parameter_length_means : (l : Option (Option AnExp)) (scope : Scope) (a : Area)
      → Means (parameter_length names signatures l scope a) (IsParameterLength names signatures l scope a) (ParameterLengthFault names signatures l scope a)
  parameter_length_means None scope a = means_ok a
  parameter_length_means (Some None) scope a = means_ok a
  parameter_length_means (Some (Some e)) scope a = means_then _ _ _ _ _ _ (length_means names signatures scope e a) (λ x. means_ok (x.1))

  parameter_means : (defines : Bool) (at : ℕ) (p : AParam) (n : ℕ) (s : State)
      → Means (type_parameter names signatures defines at p n s) (IsParameter names signatures defines p n s) (ParameterFault names signatures defines at p s)
  unfolding type_parameter
  parameter_means defines at p n s =
      means_then _ _ _ _ _ _ (parameter_form_means p.name defines at p s.scope)
      (λ ok. means_then _ _ _ _ _ _ (parameter_length_means (brackets_in p.length) s.scope s.area) (λ a. means_ok (with_parameter p.name (parameter_type p) n (with_area a s))))

  parameters_mean : (defines : Bool) (at : ℕ) (ps : List AParam) (n : ℕ) (s : State)
      → Means (type_parameters names signatures defines at ps n s) (AreParameters names signatures defines ps n s) (ParametersFault names signatures defines at ps n s)
  parameters_mean defines at [] n s = means_ok s
  parameters_mean defines at (p ∷ ps) n s = means_then _ _ _ _ _ _ (parameter_means defines at p n s) (λ next. parameters_mean defines at ps (n + 1) next)

  body_means : (spec : Spec) (f : AFunction) (b : Option SomeItems) (s : State) (t : Text)
      → Means (type_body names signatures spec f b s t) (IsBody names signatures spec f b s t) (BodyFault names signatures spec f b s t)
  body_means spec f None s t = means_ok (with_state (left_function s) t)
  body_means spec f (Some row) s t =
      means_then _ _ _ _ _ _ (items_mean names signatures (written spec f.stars) false row s)
      (λ x. room_means (end_in t) x.1.room (with_body (routine_of spec f x.1 x.0) (with_state (left_function x.1) t)))

  introduced_means : (earlier : Option ℕ) (spec : Spec) (f : AFunction) (t : Text)
      → Means (type_introduced names signatures earlier spec f t) (IsIntroduced names signatures earlier spec f t) (IntroducedFault names signatures earlier spec f t)
  unfolding type_introduced
  introduced_means earlier spec f t =
      means_then _ _ _ _ _ _ (parameters_mean (is_some f.body) f.at (params_in f.params) 0 (entered_function f t.state)) (λ s.
      means_then _ _ _ _ _ _ (agrees_means earlier t.declared (signature_of spec f) f.at) (λ same.
      body_means spec f f.body s t))

  function_means : (spec : Spec) (f : AFunction) (t : Text) → Means (type_function names signatures spec f t) (IsFunction names signatures spec f t) (FunctionFault names signatures spec f t)
  unfolding type_function
  function_means spec f t =
      means_then _ _ _ _ _ _ (earlier_means (find t.state.scope.here f.name) f.at) (λ earlier.
      means_then _ _ _ _ _ _ (head_means (is_some f.body) (is_below (find names f.name) (length t.bodies + 2)) (integer_of spec) f.stars f.at) (λ ok.
      introduced_means earlier spec f (with_declared earlier spec f t)))

  globals_mean : (spec : Spec) (ds : List ADeclarator) (s : State) → Means (type_globals names signatures spec ds s) (AreGlobals names signatures spec ds s) (GlobalsFault names signatures spec ds s)
  globals_mean spec [] s = means_ok s
  globals_mean spec (d ∷ ds) s = means_then _ _ _ _ _ _ (object_means names signatures false spec d s) (λ x. globals_mean spec ds x.1)

  external_means : (spec : Spec) (d : ADeclared) (t : Text) → Means (type_declared names signatures spec d t) (IsExternalBy names signatures spec d t) (ExternalFaultBy names signatures spec d t)
  external_means spec (function f) t = function_means spec f t
  external_means spec (globals ds) t = means_then _ _ _ _ _ _ (globals_mean spec ds t.state) (λ s. means_ok (with_state s t))

  externals_mean : (es : List AnExternal) (t : Text) → Means (type_externals names signatures es t) (AreExternals names signatures es t) (ExternalsFault names signatures es t)
  externals_mean [] t = means_ok t
  externals_mean (e ∷ es) t = means_then _ _ _ _ _ _ (external_means e.spec e.declared t) (λ next. externals_mean es next)

main_is : (o : Option ℕ) (end : ℕ) (bodies : List ARoutine) (a : Area)
    → Means (whole_by o end bodies a) (Joint (λ n. o ≡ Some n) (λ n u. u ≡ record { objects = a.objects; routines = bodies; main = n })) (NoRow (λ n. o ≡ Some n) end NoMain)
main_is None end bodies a = record {
  found = λ p e. absurd (cc);
  only = λ p j. absurd (cc (j.typed));
  faults = λ f e. record { none = λ n e. absurd (cc); is = cc };
  first = λ f w. ap Err (sym w.is);
}
main_is (Some n) end bodies a = record {
  found = λ p e. record { part = n; typed = refl; whole = cc };
  only = λ p j. let same : n ≡ j.part = cc (j.typed) in cc (j.whole);
  faults = λ f e. absurd (cc);
  first = λ f w. absurd (w.none n refl);
}

-- the second stack, and then the number of main
whole_means : (end : ℕ) (t : Text) → Means (whole end t) (IsWhole end t) (WholeFault t end)
whole_means end t = means_then _ _ _ _ _ _ (means_is (stacked_if (any_block t.bodies) end t.state.area)) (λ a. main_is (main_of t.bodies) end t.bodies a)

pub text_means : (text : List AnExternal) (ends : List ℕ) (end : ℕ) → Means (type_text text ends end) (IsText text ends end) (TextFault text ends end)
unfolding type_text IsText TextFault
text_means text ends end = means_then _ _ _ _ _ _ (externals_mean (known text).names (known text).signatures text (empty_text ends)) (λ t. whole_means end t)
