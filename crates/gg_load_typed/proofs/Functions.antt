-- A function of a generated source is typed as its routine.
use Rattle.std.proofs.Common.{◌≡◌, ◌<◌, ◌^◌, ℕ, suc, ◌+◌, false, List, [], ◌∷◌, ◌++◌, length, Some, None, Ok, codes, refl, arith, nat_lt}
use Rattle.std.proofs.lemmas.Bool.Decides.{nat_tests}
use Rattle.c_typed_scope.specs.declared.entry.Entry.{Entry}
use Rattle.c_typed_scope.specs.declared.entry.Entry.TheVariants as entries
use Rattle.c_typed_scope.specs.declared.entry.Signature.{Signature}
use Rattle.c_typed_scope.specs.Scopes.{find, with_name}
use Rattle.c_typed_scope.specs.Layout.{Area}
use Rattle.c_typed_expressions.specs.Expressions.{integer_of, written}
use Rattle.c_typed_definition.specs.Rooms.{no_room}
use Rattle.c_typed_definition.specs.Signatures.{services, service_names}
use Rattle.c_typed_definition.specs.Headings.{Text, head_of}
use Rattle.c_typed_definition.specs.Texts.{type_introduced, type_function, type_external, empty_text}
use Rattle.c_program.specs.Programs.{ARoutine}
use Rattle.gg_load_tokens.specs.Lines.{function_name}
use Rattle.gg_load_phrases.specs.Functions.{Places, first_external, function_of, function_external}
use Rattle.gg_load_program.specs.Program.{int_pointer, table, function_routine, function_routines}
use Rattle.gg_load_program.proofs.Routines.{routines_length}
use Rattle.gg_load_typed.proofs.Computing.{functions_compute, marks_compute, objects_compute}
use Rattle.gg_load_typed.proofs.Names.{function_entry, function_entries, function_signature, function_signatures, signatures_length, find_later}
use Rattle.c_types.specs.declared.typed.Variable.TheVariants as variables

-- what is in scope at file level: the services, the table and these names
abbrev pub globals_and : List (List ℕ × Entry) → List (List ℕ × Entry)
globals_and fs = service_names ++ (codes "t", entries.Array int_pointer (variables.Global 0) 256) ∷ fs

abbrev pub table_area : Area
table_area = record { objects = table ∷ []; end = 65792; literals = 0; statics = 0; measuring = false }

-- the text so far
abbrev pub text_with : List ℕ → List (List ℕ × Entry) → Area → List Signature → List ARoutine → Text
text_with ends fs a declared bodies = record {
  state = record { scope = record { outer = []; here = globals_and fs }; locals = []; registers = []; room = no_room; area = a };
  declared = declared;
  bodies = bodies;
  ends = ends;
}

abbrev pub text_at : List ℕ → ℕ → Text
text_at ends n = text_with ends (function_entries n) table_area (services ++ function_signatures n) (function_routines n)

pub not_below : (n m : ℕ) → m ≡ n → nat_lt (n + 2) (m + 2) ≡ false
not_below n m e = grind (arith, nat_tests)

-- the functions of the whole text
module _ (names : List (List ℕ × Entry)) (signatures : List Signature) (ends : List ℕ) where
  pub first_typed : (p : Places) → type_external names signatures (first_external p) (empty_text ends) ≡ Ok (text_at ends 0)
  unfolding objects_compute
  first_typed p = refl

  introduced : (i : ℕ) (p : Places) (fs : List (List ℕ × Entry)) (a : Area) (declared : List Signature) (bodies : List ARoutine) →
      type_introduced names signatures None (function_external i p).spec (function_of i p) (text_with ends fs a declared bodies)
      ≡ Ok (text_with ends fs a declared (bodies ++ function_routine i ∷ []))
  unfolding functions_compute marks_compute
  introduced i p fs a declared bodies = refl

  function_by : (i : ℕ) (p : Places) (fs : List (List ℕ × Entry)) (a : Area) (declared : List Signature) (bodies : List ARoutine) →
      find fs (function_name i) ≡ None → find names (function_name i) ≡ Some (entries.Function (i + 2)) → length declared ≡ i + 2 → length bodies ≡ i →
      type_external names signatures (function_external i p) (text_with ends fs a declared bodies)
      ≡ Ok (text_with ends (fs ++ function_entry i ∷ []) a (declared ++ function_signature ∷ []) (bodies ++ function_routine i ∷ []))
  unfolding type_function head_of integer_of written with_name
  function_by i p fs a declared bodies new there many few =
      let late : nat_lt (i + 2) (length bodies + 2) ≡ false = not_below i (length bodies) few in
      rw (new, there, late, many) (introduced i p (fs ++ function_entry i ∷ []) a (declared ++ function_signature ∷ []) bodies)

  pub function_typed : (i : ℕ) (p : Places) → i < 2 ^ 64 → find names (function_name i) ≡ Some (entries.Function (i + 2)) →
      type_external names signatures (function_external i p) (text_at ends i) ≡ Ok (text_at ends (suc i))
  function_typed i p low there =
      let len : length (services ++ function_signatures i) ≡ i + 2 = (let e : length (function_signatures i) ≡ i = signatures_length i in omega arith) in
      function_by i p (function_entries i) table_area (services ++ function_signatures i) (function_routines i)
      (find_later i i (omega arith) low) there len (routines_length i)
