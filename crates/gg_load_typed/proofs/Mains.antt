-- Main of a generated source is typed as its routine.
use Rattle.std.proofs.Common.{◌≡◌, ◌<◌, ℕ, zero, suc, ◌+◌, ◌-◌, false, eqb, List, [], ◌∷◌, ◌++◌, length, Some, None, Ok, slice_get, codes, refl, ap, arith, nat_lt}
use Rattle.std.proofs.lemmas.Bool.{ne_eqb}
use Rattle.c_phrases.specs.Units.{SomeItems, statement_item, expression}
use Rattle.c_types.specs.declared.types.CType.TheVariants as types
use Rattle.c_types.specs.declared.typed.Callee.TheVariants.{Defined}
use Rattle.c_typed_scope.specs.declared.entry.Entry.{Entry}
use Rattle.c_typed_scope.specs.declared.entry.Entry.TheVariants as entries
use Rattle.c_typed_scope.specs.declared.entry.Signature.{Signature}
use Rattle.c_typed_scope.specs.Scopes.{find, with_name}
use Rattle.c_typed_scope.specs.Layout.{Area}
use Rattle.c_typed_expressions.specs.Expressions.{integer_of, written}
use Rattle.c_typed_expressions.specs.Calls.{callee_of}
use Rattle.c_typed_addressed.specs.Marks.{Marks}
use Rattle.c_typed_addressed.specs.Statements.{Search, in_items, addressed}
use Rattle.c_typed_definition.specs.Rooms.{Room, room_for, one_declared}
use Rattle.c_typed_definition.specs.State.{State}
use Rattle.c_typed_definition.specs.Statements.{type_items}
use Rattle.c_typed_definition.specs.Signatures.{services, service_names}
use Rattle.c_typed_definition.specs.Headings.{head_of}
use Rattle.c_typed_definition.specs.Texts.{type_introduced, type_function, type_external}
use Rattle.c_program.specs.Statements.{SomeActions, MoreActions}
use Rattle.c_program.specs.Programs.{ARoutine}
use Rattle.gg_load_tokens.specs.Lines.{function_name}
use Rattle.gg_load_phrases.specs.Functions.{Places}
use Rattle.gg_load_phrases.specs.Main as phrases
use Rattle.gg_load_phrases.specs.Main.{call_of, call_places, letters, ending, beginning, main_of, main_external}
use Rattle.gg_load_program.specs.Program.{int, call_action, onto_calls, last_actions, main_routine}
use Rattle.gg_load_typed.proofs.Computing.{expressions_compute, functions_compute, marks_compute}
use Rattle.gg_load_typed.proofs.Names.{function_signature, main_signature}
use Rattle.gg_load_typed.proofs.Functions.{globals_and, text_with, not_below}
use Rattle.c_types.specs.declared.typed.Variable.TheVariants as variables

-- main applies `&` to no variable: its calls look for none, and neither do the statements behind them
calls_marks : (at n : ℕ) (is : SomeItems) (s : Search) → in_items (phrases.onto_calls at n is) s ≡ in_items is s
calls_marks at zero is s = refl
calls_marks at (suc n) is s = calls_marks at n (statement_item (expression (call_of n (call_places at n))) is) s

abbrev main_found : Marks
main_found = record { parameters = []; locals = false ∷ [] }

main_marks : (k at : ℕ) (p q r : Places) → addressed [] (beginning p (phrases.onto_calls at k (statement_item (letters q) (ending r)))) ≡ main_found
unfolding marks_compute
main_marks k at p q r =
    ap (λ (z : Search). z.found) (calls_marks at k (statement_item (letters q) (ending r))
    (record { scope = record { outer = []; here = (codes "s", entries.Variable types.Void (variables.Automatic 0)) ∷ [] }; found = main_found }))

-- main's local is declared
abbrev main_room : Room
main_room = one_declared (room_for main_found)

-- the functions that are known, behind the services; and what is in scope in main, behind the services and the table
module _ (ns : List (List ℕ × Entry)) (ss : List Signature) (fs : List (List ℕ × Entry)) (a : Area) where
  -- in main's block
  abbrev pub in_main : State
  in_main =
      record {
        scope = record { outer = globals_and fs ∷ []; here = (codes "s", entries.Variable int (variables.Automatic 0)) ∷ [] };
        locals = int ∷ [];
        registers = [];
        room = main_room;
        area = a;
      }

  abbrev pub Items : SomeItems → SomeActions → Type 0
  Items is acts = type_items (service_names ++ ns) (services ++ ss) int false is in_main ≡ Ok (acts, in_main)

  last_typed : (p q : Places) → Items (statement_item (letters p) (ending q)) last_actions
  unfolding expressions_compute callee_of
  last_typed p q = refl

  -- a function's number, behind the two services
  number_of : (i : ℕ) → callee_of (i + 2) ≡ Defined i
  unfolding callee_of
  number_of i =
      let first : eqb (i + 2) 0 ≡ false = ne_eqb (i + 2) 0 (λ e. omega arith) in
      let second : eqb (i + 2) 1 ≡ false = ne_eqb (i + 2) 1 (λ e. omega arith) in
      let behind : i + 2 - 2 ≡ i = omega arith in
      rw (first, second, behind) refl

  slot_of : (i : ℕ) (s : Signature) → slice_get ss i ≡ Some s → slice_get (services ++ ss) (i + 2) ≡ Some s
  slot_of i s h = let e : i + 2 ≡ suc (suc i) = omega arith in rw e h

  -- what is known of a function that is called
  pub record IsCalled (i : ℕ) : Type 0 where
    pub known : find ns (function_name i) ≡ Some (entries.Function (i + 2))
    pub in_scope : find fs (function_name i) ≡ Some (entries.Function (i + 2))
    pub takes : slice_get ss i ≡ Some function_signature

  call_typed : (i : ℕ) (p : Places) (is : SomeItems) (acts : SomeActions) → IsCalled i → Items is acts → Items (statement_item (expression (call_of i p)) is) (MoreActions (call_action i) acts)
  unfolding expressions_compute
  call_typed i p is acts h more =
      let known : find ns (function_name i) ≡ Some (entries.Function (i + 2)) = h.known in
      let there : find fs (function_name i) ≡ Some (entries.Function (i + 2)) = h.in_scope in
      let slot : slice_get (services ++ ss) (i + 2) ≡ Some function_signature = slot_of i function_signature h.takes in
      rw (there, known, slot, number_of i, more) refl

  calls_typed : (at n : ℕ) (is : SomeItems) (acts : SomeActions) → ((i : ℕ) → i < n → IsCalled i) → Items is acts → Items (phrases.onto_calls at n is) (onto_calls n acts)
  calls_typed at zero is acts h more = more
  calls_typed at (suc n) is acts h more =
      calls_typed at n (statement_item (expression (call_of n (call_places at n))) is) (MoreActions (call_action n) acts)
      (λ i low. h i (omega arith)) (call_typed n (call_places at n) is acts (h n (omega arith)) more)

  introduced : (ends : List ℕ) (k : ℕ) (p : Places) (is : SomeItems) (declared : List Signature) (bodies : List ARoutine) →
      addressed [] (beginning p is) ≡ main_found → Items is (onto_calls k last_actions) →
      type_introduced (service_names ++ ns) (services ++ ss) None (main_external p is).spec (main_of p is) (text_with ends fs a declared bodies)
      ≡ Ok (text_with ends fs a declared (bodies ++ main_routine k ∷ []))
  unfolding functions_compute
  introduced ends k p is declared bodies marks typed = rw (marks, typed) refl

-- main, once its name is in scope too
module _ (ns : List (List ℕ × Entry)) (ss : List Signature) (ends : List ℕ) where
  pub main_typed : (k at : ℕ) (p q r : Places) (fs : List (List ℕ × Entry)) (a : Area) (declared : List Signature) (bodies : List ARoutine) →
      find fs (codes "main") ≡ None → find ns (codes "main") ≡ Some (entries.Function (k + 2)) → length declared ≡ k + 2 → length bodies ≡ k →
      ((i : ℕ) → i < k → IsCalled ns ss (fs ++ (codes "main", entries.Function (k + 2)) ∷ []) a i) →
      type_external (service_names ++ ns) (services ++ ss) (main_external p (phrases.onto_calls at k (statement_item (letters q) (ending r)))) (text_with ends fs a declared bodies)
      ≡ Ok (text_with ends (fs ++ (codes "main", entries.Function (k + 2)) ∷ []) a (declared ++ main_signature ∷ []) (bodies ++ main_routine k ∷ []))
  unfolding type_function head_of integer_of written with_name
  main_typed k at p q r fs a declared bodies new there many few called =
      let late : nat_lt (k + 2) (length bodies + 2) ≡ false = not_below k (length bodies) few in
      let all : List (List ℕ × Entry) = fs ++ (codes "main", entries.Function (k + 2)) ∷ [] in
      rw (new, there, late, many)
      (introduced ns ss all a ends k p (phrases.onto_calls at k (statement_item (letters q) (ending r))) (declared ++ main_signature ∷ []) bodies
      (main_marks k at p q r)
      (calls_typed ns ss all a at k (statement_item (letters q) (ending r)) last_actions called (last_typed ns ss all a q r)))
