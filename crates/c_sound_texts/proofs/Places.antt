-- Statements, functions and whole texts keep the names in scope and the objects in place.
use Rattle.std.proofs.Common.{◌≡◌, ℕ, zero, suc, ◌+◌, ◌-◌, Bool, true, false, List, [], ◌∷◌, ◌++◌, length, take, Option, Some, None, ap, ◌∙◌, ◌*◌}
use Rattle.std.specs.Prelude.{is_some, slice_index_or, not, ◌&&◌, if◌then◌else◌}
use Rattle.c_phrases.specs.declared.operator.Spec.{Spec}
use Rattle.c_phrases.specs.declared.operator.Storage.{Storage}
use Rattle.c_phrases.specs.declared.operator.Storage.TheVariants as storages
use Rattle.c_phrases.specs.declared.tree.Named.{Named}
use Rattle.c_phrases.specs.Phrases.{AnExp, SomeExps, no_exps, exps}
use Rattle.c_phrases.specs.Units.{AnInit, value, elements, ADeclarator, local_item, statement_item, AStatement, block}
use Rattle.c_phrases.specs.Units.{empty, expression, break_off, continue_on, give_back, if_then, if_else, while_loop}
use Rattle.c_phrases.specs.Units.{do_loop, for_loop, SomeItems, no_items, AParam, AFunction, ADeclared, function}
use Rattle.c_phrases.specs.Units.{globals, AnExternal}
use Rattle.c_types.specs.declared.types.CType.{CType}
use Rattle.c_types.specs.declared.typed.Variable.{Variable}
use Rattle.c_types.specs.declared.typed.Variable.TheVariants as variables
use Rattle.c_types.specs.Typed.{AnExpression, Constant}
use Rattle.c_types.specs.Types.{size_of, pointer_to}
use Rattle.c_typed_scope.specs.declared.entry.Entry.{Entry}
use Rattle.c_typed_scope.specs.declared.entry.Entry.TheVariants as entries
use Rattle.c_typed_scope.specs.declared.entry.Signature.{Signature}
use Rattle.c_typed_scope.specs.Scopes.{Scope, leave}
use Rattle.c_typed_scope.specs.Layout.{Area}
use Rattle.c_program.specs.Statements.{ADeclaration, AnAction, SomeActions, StoreOf}
use Rattle.c_typed_expressions.specs.Phrases.{init_in, brackets_in, params_in}
use Rattle.c_typed_expressions.specs.Expressions.{written}
use Rattle.c_sound_bodies.specs.c_typed_definition.specs.State.{State, with_area, with_local, with_register, named_state, with_room, with_memory, array_entry}
use Rattle.c_sound_bodies.specs.c_typed_definition.specs.Statements.{entered, left}
use Rattle.c_sound_bodies.specs.c_typed_definition.specs.Signatures.{parameter_type}
use Rattle.c_sound_bodies.specs.c_typed_definition.specs.Headings.{Text, with_parameter, with_declared}
use Rattle.c_sound_bodies.specs.c_typed_definition.specs.Bodies.{entered_function, left_function}
use Rattle.c_sound_bodies.specs.c_typed_definition.specs.Rooms.{offset_in, is_next_addressed, is_parameter_addressed, with_parameter_in}
use Rattle.c_sound_bodies.specs.c_typed_definition.specs.Automatics.{memory_variable, memory_array}
use Rattle.c_sound_bodies.specs.c_typed_law.specs.Locals.{IsBegun, IsLocal, AreLocals, IsMemoryBegun, IsVariable, IsAutomaticBy}
use Rattle.c_sound_bodies.specs.c_typed_law.specs.Statements.{IsFull, IsCondition, IsPart, IsTurn, IsReturn, IsStatement, AreItems}
use Rattle.c_sound_bodies.specs.c_typed_law.specs.Texts.{IsParameterLength, AreParameters, IsBody, IsFunction, AreGlobals, IsExternalBy}
use Rattle.c_sound_bodies.specs.c_typed_law.specs.Texts.{AreExternals}
use Rattle.c_sound_bodies.specs.c_typed_law.specs.Values.{IsLength}
use Rattle.c_sound_bodies.specs.c_typed_law.specs.Arrays.{IsGiven, IsStored, AreStored, IsArrayBegun, IsAutomaticLength}
use Rattle.c_sound_bodies.specs.c_typed_words.specs.Words.{IsToken}
use Rattle.c_sound_bodies.specs.c_typed_words.specs.Phrases.{ExpOf, PartOf, BracketsOf, InitOf, DeclaratorOf, DeclaratorsOf, StatementOf, ItemsOf, ParamsOf, BodyOf, DeclaredOf, ExternalsOf}
use Rattle.c_sound_bodies.specs.c_typed_words.specs.Phrases.{ExpsOf}
use Rattle.c_sound_bodies.specs.States.{OfVariable, NamesOf, BlocksOf, ScopeOf}
use Rattle.c_sound_bodies.proofs.Names.{scope_named, scope_entered}
use Rattle.c_sound_bodies.proofs.Growth.{exp_lays}
use Rattle.c_sound_texts.proofs.Areas.{Lays, lays_same, laying}
use Rattle.c_sound_texts.proofs.Linked.{LaidIn}
use Rattle.c_sound_texts.proofs.Objects.{InPlace, place_more, object_in_place, array_laid}

blocks_take : (known : Variable → ℕ → Type 0) (n : ℕ) (bs : List (List (List ℕ × Entry))) → BlocksOf known bs → BlocksOf known (take n bs)
blocks_take known zero bs all = tt
blocks_take known (suc n) [] all = tt
blocks_take known (suc n) (b ∷ bs) all = (all.0, blocks_take known n bs all.1)

block_at : (known : Variable → ℕ → Type 0) (bs : List (List (List ℕ × Entry))) (n : ℕ) (here : List (List ℕ × Entry)) →
    BlocksOf known bs → NamesOf known here → NamesOf known (slice_index_or bs n here)
block_at known [] n here all h = h
block_at known (b ∷ bs) zero here all h = all.0
block_at known (b ∷ bs) (suc n) here all h = block_at known bs n here all.1 h

-- the innermost block ends
scope_left : (known : Variable → ℕ → Type 0) (s : Scope) → ScopeOf known s → ScopeOf known (leave s)
unfolding leave
scope_left known s all = record {
  here = block_at known s.outer (length s.outer - 1) s.here all.outer all.here;
  outer = blocks_take known (length s.outer - 1) s.outer all.outer;
}

-- another name, which is no object's
named_in_place : (start : Area) (s : State) (n : List ℕ) (e : Entry) → InPlace start s →
    ((objects : ℕ) → OfVariable (LaidIn objects) e) → InPlace start (named_state n e s)
named_in_place start s n e o of = record {
  names = scope_named (LaidIn (length s.area.objects)) s.scope n e o.names (of (length s.area.objects));
  laying = o.laying;
  lays = o.lays;
}

module _ (start : Area) where
  entered_in_place : (s : State) → InPlace start s → InPlace start (entered s)
  entered_in_place s o = record {
    names = scope_entered (LaidIn (length s.area.objects)) s.scope o.names;
    laying = o.laying;
    lays = o.lays;
  }

  left_in_place : (s : State) → InPlace start s → InPlace start (left s)
  left_in_place s o = record {
    names = scope_left (LaidIn (length s.area.objects)) s.scope o.names;
    laying = o.laying;
    lays = o.lays;
  }

  local_in_place : (t : CType) (n : List ℕ) (s : State) → InPlace start s → InPlace start (with_local t n s)
  local_in_place t n s o = record {
    names = scope_named (LaidIn (length s.area.objects)) s.scope n (entries.Variable t (variables.Automatic (length s.locals))) o.names tt;
    laying = o.laying;
    lays = o.lays;
  }

  -- a memory local
  block_in_place : (align size : ℕ) (n : List ℕ) (e : Entry) (s : State) → InPlace start s → ((objects : ℕ) → OfVariable (LaidIn objects) e) →
      InPlace start (with_memory align size n e s)
  block_in_place align size n e s o of = let q = named_in_place start s n e o of in record { names = q.names; laying = q.laying; lays = q.lays }

  noted_in_place : (s : State) → InPlace start s → InPlace start (with_register s)
  noted_in_place s o = record { names = o.names; laying = o.laying; lays = o.lays }

  -- a function begins, with no locals, and ends
  function_entered : (f : AFunction) (s : State) → InPlace start s → InPlace start (entered_function f s)
  function_entered f s o = record {
    names = scope_entered (LaidIn (length s.area.objects)) s.scope o.names;
    laying = o.laying;
    lays = o.lays;
  }

  function_left : (s : State) → InPlace start s → InPlace start (left_function s)
  function_left s o = record {
    names = scope_left (LaidIn (length s.area.objects)) s.scope o.names;
    laying = o.laying;
    lays = o.lays;
  }

  parameter_by : (in_memory : Bool) (name : List ℕ) (t : CType) (n : ℕ) (s : State) → InPlace start s → InPlace start (if in_memory
      then with_room (with_parameter_in t n s.room) (named_state name (entries.Variable t (variables.InBlock (offset_in (size_of t) s.room))) s)
      else named_state name (entries.Variable t (variables.Parameter n)) s)
  parameter_by true name t n s o =
      let q = named_in_place start s name (entries.Variable t (variables.InBlock (offset_in (size_of t) s.room))) o (λ objects. tt) in
      record { names = q.names; laying = q.laying; lays = q.lays }
  parameter_by false name t n s o = named_in_place start s name (entries.Variable t (variables.Parameter n)) o (λ objects. tt)

  parameter_in_place : (name : Option Named) (t : CType) (n : ℕ) (s : State) → InPlace start s → InPlace start (with_parameter name t n s)
  parameter_in_place None t n s o = o
  parameter_in_place (Some name) t n s o = parameter_by (is_parameter_addressed n s.room) name.name t n s o

  function_named : (earlier : Option ℕ) (spec : Spec) (f : AFunction) (t : Text) → InPlace start t.state →
      InPlace start (with_declared earlier spec f t).state
  function_named (Some n) spec f t o = o
  function_named None spec f t o =
      named_in_place start t.state f.name (entries.Function (length t.declared)) o (λ objects. tt)

  module _ (names : List (List ℕ × Entry)) (signatures : List Signature) where
    given_in_place : (t : CType) (e : AnExp) → ExpOf IsToken e → (s : State) (x : AnExpression × State) → InPlace start s →
        IsGiven names signatures t e s x → InPlace start x.1
    given_in_place t e w s x o j =
        let k = j.whole in
        rw (k.whole) (place_more start s j.part.1 o (exp_lays IsToken Lays laying names signatures s.scope e w s.area j.part j.typed))

    begun_in_place : (t : CType) (n : ℕ) (i : Option AnInit) → InitOf IsToken i → (done : List ADeclaration) (s : State) (r : List ADeclaration × State) →
        InPlace start s → IsBegun names signatures t n i done s r → InPlace start r.1
    begun_in_place t n None w done s r o j = rw j o
    begun_in_place t n (Some (elements es comma)) w done s r o j = rw j o
    begun_in_place t n (Some (value e)) w done s r o j = rw (j.whole) (given_in_place t e w s j.part o j.typed)

    stored_in_place : (t : CType) (at : ℕ) (e : AnExp) → ExpOf IsToken e → (done : List ADeclaration) (s : State) (r : List ADeclaration × State) →
        InPlace start s → IsStored names signatures t at e done s r → InPlace start r.1
    stored_in_place t at e w done s r o j = rw (j.whole) (given_in_place t e w s j.part o j.typed)

    stores_in_place : (t : CType) (at : ℕ) (es : SomeExps) → ExpsOf IsToken es → (done : List ADeclaration) (s : State) (r : List ADeclaration × State) →
        InPlace start s → AreStored names signatures t at es done s r → InPlace start r.1
    stores_in_place t at no_exps w done s r o j = rw j o
    stores_in_place t at (exps e es) w done s r o j =
        stores_in_place t (at + size_of t) es w.1 j.part.0 j.part.1 r (stored_in_place t at e w.0 done s j.part o j.typed) j.whole

    memory_in_place : (t : CType) (at : ℕ) (i : Option AnInit) → InitOf IsToken i → (done : List ADeclaration) (s : State) (r : List ADeclaration × State) →
        InPlace start s → IsMemoryBegun names signatures t at i done s r → InPlace start r.1
    memory_in_place t at None w done s r o j = rw j o
    memory_in_place t at (Some (elements es comma)) w done s r o j = rw j o
    memory_in_place t at (Some (value e)) w done s r o j = stored_in_place t at e w (done ++ StoreOf t at (Constant 0) ∷ []) s r o j

    array_in_place : (t : CType) (at : ℕ) (i : Option AnInit) → InitOf IsToken i → (done : List ADeclaration) (s : State) (r : List ADeclaration × State) →
        InPlace start s → IsArrayBegun names signatures t at i done s r → InPlace start r.1
    array_in_place t at None w done s r o j = rw j o
    array_in_place t at (Some (elements es comma)) w done s r o j = stores_in_place t at es w done s r o j
    array_in_place t at (Some (value e)) w done s r o j = rw j o

    measured_in_place : (e : AnExp) → ExpOf IsToken e → (s : State) (m : ℕ × Area) → InPlace start s → IsLength names signatures s.scope e s.area m →
        InPlace start (with_area m.1 s)
    measured_in_place e w s m o j =
        let k = j.whole in
        rw (k.whole) (place_more start s j.part.1 o (exp_lays IsToken Lays laying names signatures s.scope e w s.area j.part j.typed))

    length_in_place : (c : Option AnExp) (i : Option AnInit) → PartOf IsToken c → (s : State) (m : ℕ × State) → InPlace start s →
        IsAutomaticLength names signatures c i s m → InPlace start m.1
    length_in_place None i w s m o j = rw j o
    length_in_place (Some e) i w s m o j = rw (j.whole) (measured_in_place e w s j.part o j.typed)

    variable_in_place : (in_memory : Bool) (t : CType) (d : ADeclarator) → InitOf IsToken (init_in d.init) → (done : List ADeclaration) (s : State)
        (r : List ADeclaration × State) → InPlace start s → IsVariable names signatures in_memory t d done s r → InPlace start r.1
    variable_in_place true t d w done s r o j =
        memory_in_place t (offset_in (size_of t) s.room) (init_in d.init) w done (memory_variable t d s) r
        (block_in_place (size_of t) (size_of t) d.name (entries.Variable t (variables.InBlock (offset_in (size_of t) s.room))) s o (λ objects. tt)) j
    variable_in_place false t d w done s r o j =
        begun_in_place t (length s.locals) (init_in d.init) w done (with_local t d.name s) r (local_in_place t d.name s o) j

    automatic_in_place : (c : Option (Option AnExp)) → BracketsOf IsToken c → (is_register : Bool) (t : CType) (d : ADeclarator) →
        InitOf IsToken (init_in d.init) → (done : List ADeclaration) (s : State) (r : List ADeclaration × State) → InPlace start s →
        IsAutomaticBy names signatures c is_register t d done s r → InPlace start r.1
    automatic_in_place None v is_register t d w done s r o j =
        variable_in_place (not is_register && is_next_addressed s.room) t d w done s r o j
    automatic_in_place (Some c) v is_register t d w done s r o j =
        let m = j.part in
        let k = j.whole in
        let q = k.whole in
        let at = offset_in (size_of t) m.1.room in
        let size = k.part * size_of t in
        let counted = length_in_place c (init_in d.init) v s m o j.typed in
        let inside = block_in_place (size_of t) size d.name (array_entry (pointer_to t) (variables.InBlock at) size) m.1 counted
        (λ objects. array_laid (pointer_to t) (variables.InBlock at) size objects tt) in
        rw (q.whole) (array_in_place t at (init_in d.init) w done (memory_array t size d m.1) q.part inside q.typed)

    declared_in_place : (storage : Storage) (spec : Spec) (d : ADeclarator) → DeclaratorOf IsToken d → (done : List ADeclaration) (s : State)
        (r : List ADeclaration × State) → InPlace start s → IsLocal names signatures storage spec d done s r → InPlace start r.1
    declared_in_place storages.Automatic spec d w done s r o j =
        automatic_in_place (brackets_in d.length) w.1 false (written spec d.stars) d w.2 done s r o j.whole
    declared_in_place (storages.Register at) spec d w done s r o j =
        automatic_in_place (brackets_in d.length) w.1 true (written spec d.stars) d w.2 done (with_register s) r (noted_in_place s o) j.whole
    declared_in_place (storages.Static at) spec d w done s r o j =
        rw (j.whole) (object_in_place start names signatures true spec d w s j.part o j.typed)

    locals_in_place : (storage : Storage) (spec : Spec) (ds : List ADeclarator) → DeclaratorsOf IsToken ds → (done : List ADeclaration) (s : State)
        (r : List ADeclaration × State) → InPlace start s → AreLocals names signatures storage spec ds done s r → InPlace start r.1
    locals_in_place storage spec [] w done s r o j = rw j o
    locals_in_place storage spec (d ∷ ds) w done s r o j =
        locals_in_place storage spec ds w.1 j.part.0 j.part.1 r
        (declared_in_place storage spec d w.0 done s j.part o j.typed) j.whole

    full_in_place : (e : AnExp) → ExpOf IsToken e → (s : State) (r : AnExpression × State) → InPlace start s → IsFull names signatures e s r → InPlace start r.1
    full_in_place e w s r o j =
        rw (j.whole) (place_more start s j.part.1 o (exp_lays IsToken Lays laying names signatures s.scope e w s.area j.part j.typed))

    condition_in_place : (e : AnExp) → ExpOf IsToken e → (s : State) (r : AnExpression × State) → InPlace start s → IsCondition names signatures e s r →
        InPlace start r.1
    condition_in_place e w s r o j = let k = j.whole in rw (k.whole) (full_in_place e w s j.part o j.typed)

    part_in_place : (e : Option AnExp) → PartOf IsToken e → (s : State) (r : Option AnExpression × State) → InPlace start s → IsPart names signatures e s r →
        InPlace start r.1
    part_in_place None w s r o j = rw j o
    part_in_place (Some e) w s r o j = rw (j.whole) (full_in_place e w s j.part o j.typed)

    turn_in_place : (e : Option AnExp) → PartOf IsToken e → (s : State) (r : Option AnExpression × State) → InPlace start s → IsTurn names signatures e s r →
        InPlace start r.1
    turn_in_place None w s r o j = rw j o
    turn_in_place (Some e) w s r o j = rw (j.whole) (condition_in_place e w s j.part o j.typed)

    returned_in_place : (result : CType) (e : Option AnExp) → PartOf IsToken e → (s : State) (r : AnAction × State) → InPlace start s →
        IsReturn names signatures result e s r → InPlace start r.1
    returned_in_place result None w s r o j = rw j o
    returned_in_place result (Some e) w s r o j = let k = j.whole in rw (k.whole) (full_in_place e w s j.part o j.typed)

    mutual
      statement_in_place : (result : CType) (looping : Bool) (a : AStatement) → StatementOf IsToken a → (s : State) (r : AnAction × State) → InPlace start s →
          IsStatement names signatures result looping a s r → InPlace start r.1
      statement_in_place result looping (block row) w s r o j =
          rw (j.whole) (left_in_place j.part.1 (items_in_place result looping row w (entered s) j.part (entered_in_place s o) j.typed))
      statement_in_place result looping empty w s r o j = rw j o
      statement_in_place result looping (expression e) w s r o j = rw (j.whole) (full_in_place e w s j.part o j.typed)
      statement_in_place result looping (break_off at) w s r o j = rw (j.typed) o
      statement_in_place result looping (continue_on at) w s r o j = rw (j.typed) o
      statement_in_place result looping (give_back at e) w s r o j = returned_in_place result e w s r o j
      statement_in_place result looping (if_then at opened c a) w s r o j =
          let k = j.whole in
          rw (k.whole) (statement_in_place result looping a w.1 j.part.1 k.part (condition_in_place c w.0 s j.part o j.typed) k.typed)
      statement_in_place result looping (if_else at opened c a other b) w s r o j =
          let k = j.whole in
          let m = k.whole in
          rw (m.whole) (statement_in_place result looping b w.2 k.part.1 m.part
          (statement_in_place result looping a w.1 j.part.1 k.part (condition_in_place c w.0 s j.part o j.typed) k.typed) m.typed)
      statement_in_place result looping (while_loop at opened c a) w s r o j =
          let k = j.whole in
          rw (k.whole) (statement_in_place result true a w.1 j.part.1 k.part (condition_in_place c w.0 s j.part o j.typed) k.typed)
      statement_in_place result looping (do_loop at a again opened c) w s r o j =
          let k = j.whole in
          rw (k.whole) (condition_in_place c w.1 j.part.1 k.part (statement_in_place result true a w.0 s j.part o j.typed) k.typed)
      statement_in_place result looping (for_loop at opened i c e a) w s r o j =
          let k = j.whole in
          let m = k.whole in
          let q = m.whole in
          let first = part_in_place i w.0 s j.part o j.typed in
          let second = turn_in_place c w.1 j.part.1 k.part first k.typed in
          rw (q.whole) (statement_in_place result true a w.3 m.part.1 q.part (part_in_place e w.2 k.part.1 m.part second m.typed) q.typed)

      items_in_place : (result : CType) (looping : Bool) (row : SomeItems) → ItemsOf IsToken row → (s : State) (r : SomeActions × State) → InPlace start s →
          AreItems names signatures result looping row s r → InPlace start r.1
      items_in_place result looping no_items w s r o j = rw j o
      items_in_place result looping (local_item l rest) w s r o j =
          let k = j.whole in
          rw (k.whole) (items_in_place result looping rest w.1 j.part.1 k.part
          (locals_in_place l.storage l.spec l.declarators w.0 [] s j.part o j.typed) k.typed)
      items_in_place result looping (statement_item a rest) w s r o j =
          let k = j.whole in
          rw (k.whole) (items_in_place result looping rest w.1 j.part.1 k.part
          (statement_in_place result looping a w.0 s j.part o j.typed) k.typed)

    parameter_length_lays : (l : Option (Option AnExp)) → BracketsOf IsToken l → (scope : Scope) (a b : Area) →
        IsParameterLength names signatures l scope a b → Lays a b
    parameter_length_lays None w scope a b j = rw j (lays_same a)
    parameter_length_lays (Some None) w scope a b j = rw j (lays_same a)
    parameter_length_lays (Some (Some e)) w scope a b j =
        let k = j.typed in
        let m = k.whole in
        let area : b ≡ k.part.1 = j.whole ∙ ap (λ (x : ℕ × Area). x.1) m.whole in
        rw area (exp_lays IsToken Lays laying names signatures scope e w a k.part k.typed)

    parameters_in_place : (defines : Bool) (ps : List AParam) → ParamsOf IsToken ps → (n : ℕ) (s r : State) → InPlace start s →
        AreParameters names signatures defines ps n s r → InPlace start r
    parameters_in_place defines [] w n s r o j = rw j o
    parameters_in_place defines (p ∷ ps) w n s r o j =
        let i = j.typed in
        let k = i.whole in
        let here = place_more start s k.part o (parameter_length_lays (brackets_in p.length) w.0.1 s.scope s.area k.part k.typed) in
        parameters_in_place defines ps w.1 (n + 1) j.part r
        (rw (k.whole) (parameter_in_place p.name (parameter_type p) n (with_area k.part s) here)) j.whole

    body_in_place : (spec : Spec) (f : AFunction) (row : Option SomeItems) → BodyOf IsToken row → (s : State) (t r : Text) → InPlace start s →
        IsBody names signatures spec f row s t r → InPlace start r.state
    body_in_place spec f None w s t r o j = rw j (function_left s o)
    body_in_place spec f (Some row) w s t r o j =
        rw (j.whole.typed) (function_left j.part.1 (items_in_place (written spec f.stars) false row w s j.part o j.typed))

    function_in_place : (spec : Spec) (f : AFunction) → DeclaredOf IsToken (function f) → (t r : Text) → InPlace start t.state → IsFunction names signatures spec f t r →
        InPlace start r.state
    function_in_place spec f w t r o j =
        let k = j.whole in
        let i = k.whole in
        let m = i.whole in
        let named = function_named j.part spec f t o in
        body_in_place spec f f.body w.2 i.part (with_declared j.part spec f t) r
        (parameters_in_place (is_some f.body) (params_in f.params) w.1 0 (entered_function f (with_declared j.part spec f t).state) i.part
        (function_entered f (with_declared j.part spec f t).state named) i.typed) m.whole

    globals_in_place : (spec : Spec) (ds : List ADeclarator) → DeclaratorsOf IsToken ds → (s r : State) → InPlace start s → AreGlobals names signatures spec ds s r →
        InPlace start r
    globals_in_place spec [] w s r o j = rw j o
    globals_in_place spec (d ∷ ds) w s r o j =
        globals_in_place spec ds w.1 j.part.1 r (object_in_place start names signatures false spec d w.0 s j.part o j.typed) j.whole

    external_in_place : (spec : Spec) (d : ADeclared) → DeclaredOf IsToken d → (t r : Text) → InPlace start t.state → IsExternalBy names signatures spec d t r →
        InPlace start r.state
    external_in_place spec (function f) w t r o j = function_in_place spec f w t r o j
    external_in_place spec (globals ds) w t r o j = rw (j.whole) (globals_in_place spec ds w t.state j.part o j.typed)

    pub externals_in_place : (es : List AnExternal) → ExternalsOf IsToken es → (t r : Text) → InPlace start t.state → AreExternals names signatures es t r →
        InPlace start r.state
    externals_in_place [] w t r o j = rw j o
    externals_in_place (e ∷ es) w t r o j =
        externals_in_place es w.1 j.part r (external_in_place e.spec e.declared w.0 t j.part o j.typed) j.whole
