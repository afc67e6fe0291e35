-- A relation between data areas that holds across literals and objects holds across statements.
use Rattle.std.proofs.Common.{ℕ, ◌+◌, ◌*◌, Bool, true, false, List, [], ◌∷◌, ◌++◌, length, Option, Some, None, arith}
use Rattle.std.specs.Prelude.{not, ◌&&◌}
use Rattle.c_tokens.specs.declared.token.Token.{Token}
use Rattle.c_phrases.specs.declared.operator.Spec.{Spec}
use Rattle.c_phrases.specs.declared.operator.Storage.{Storage}
use Rattle.c_phrases.specs.declared.operator.Storage.TheVariants as storages
use Rattle.c_phrases.specs.Phrases.{AnExp, SomeExps, no_exps, exps}
use Rattle.c_phrases.specs.Units.{AnInit, value, elements, ADeclarator, local_item, statement_item, AStatement, block}
use Rattle.c_phrases.specs.Units.{empty, expression, break_off, continue_on, give_back, if_then, if_else, while_loop}
use Rattle.c_phrases.specs.Units.{do_loop, for_loop, SomeItems, no_items}
use Rattle.c_types.specs.declared.types.CType.{CType}
use Rattle.c_types.specs.Types.{size_of}
use Rattle.c_types.specs.Typed.{AnExpression, Constant}
use Rattle.c_typed_scope.specs.declared.entry.Entry.{Entry}
use Rattle.c_typed_scope.specs.declared.entry.Signature.{Signature}
use Rattle.c_typed_scope.specs.Scopes.{Scope}
use Rattle.c_typed_scope.specs.Layout.{Area}
use Rattle.c_program.specs.Statements.{ADeclaration, StoreOf, AnAction, SomeActions}
use Rattle.c_sound.specs.Fits.{declaring}
use Rattle.c_typed_expressions.specs.Phrases.{init_in, brackets_in}
use Rattle.c_typed_expressions.specs.Expressions.{written}
use Rattle.c_typed_law.specs.c_typed_definition.specs.Rooms.{offset_in, is_next_addressed}
use Rattle.c_typed_law.specs.c_typed_definition.specs.State.{State, with_local, with_register}
use Rattle.c_typed_law.specs.c_typed_definition.specs.Automatics.{memory_variable, memory_array}
use Rattle.c_typed_law.specs.c_typed_definition.specs.Statements.{entered}
use Rattle.c_typed_law.specs.Objects.{IsObject}
use Rattle.c_typed_law.specs.Values.{IsLength}
use Rattle.c_typed_law.specs.Arrays.{IsGiven, IsStored, AreStored, IsArrayBegun, IsAutomaticLength}
use Rattle.c_typed_law.specs.Locals.{IsBegun, IsMemoryBegun, IsVariable, IsAutomaticBy, IsAutomatic, IsLocal, AreLocals}
use Rattle.c_typed_law.specs.Statements.{IsFull, IsCondition, IsPart, IsTurn, IsReturn, IsStatement, AreItems}
use Rattle.c_typed_words.specs.Phrases.{ExpOf, ExpsOf, PartOf, BracketsOf, InitOf, DeclaratorOf, DeclaratorsOf, StatementOf, ItemsOf}
use Rattle.c_sound_bodies.specs.States.{InOrder}
use Rattle.c_sound_bodies.proofs.Names.{scope_more, known_more}
use Rattle.c_sound_bodies.proofs.Growth.{Laying, exp_lays}
use Rattle.c_sound_bodies.proofs.Locals.{local_sound, locals_sound}
use Rattle.c_sound_bodies.proofs.Parts.{order_entered}
use Rattle.c_sound_bodies.proofs.Law.{condition_sound, part_sound, turn_sound, statement_sound}

-- whichever local
abbrev pub any_local : ℕ → Type 0
any_local n = Unit {0}

pub order_any : (scope : ℕ → Type 0) (parameters : ℕ) (s : State) → InOrder scope parameters s → InOrder any_local parameters s
order_any scope parameters s o = record {
  names = λ small. scope_more _ _ s.scope (known_more scope any_local (length s.locals) parameters (length s.area.objects) s.room.length
      (length s.locals) (length s.area.objects) s.room.length (λ n k. tt) (omega arith) (omega arith) (omega arith)) (o.names small);
  laying = o.laying;
}

-- what holds across each declaration of a static local, where what is in scope is in order
abbrev pub LaysObjects : (T : Token → Type 0) (R : Area → Area → Type 0) (names : List (List ℕ × Entry)) (signatures : List Signature) (parameters : ℕ) → Type 0
LaysObjects T R names signatures parameters =
    (spec : Spec) (d : ADeclarator) (s : State) (r : ℕ × State) → DeclaratorOf T d →
    InOrder any_local parameters s → IsObject names signatures true spec d s r → R s.area r.1.area

module _ (T : Token → Type 0) (R : Area → Area → Type 0) (l : Laying T R) (names : List (List ℕ × Entry)) (signatures : List Signature) (parameters : ℕ)
    (object : LaysObjects T R names signatures parameters) where
  full_lays : (e : AnExp) → ExpOf T e → (s : State) (r : AnExpression × State) → IsFull names signatures e s r → R s.area r.1.area
  full_lays e w s r j = rw (j.whole) (exp_lays T R l names signatures s.scope e w s.area j.part j.typed)

  condition_lays : (e : AnExp) → ExpOf T e → (s : State) (r : AnExpression × State) → IsCondition names signatures e s r → R s.area r.1.area
  condition_lays e w s r j = let k = j.whole in rw (k.whole) (full_lays e w s j.part j.typed)

  part_lays : (e : Option AnExp) → PartOf T e → (s : State) (r : Option AnExpression × State) → IsPart names signatures e s r → R s.area r.1.area
  part_lays None w s r j = rw j (l.same s.area)
  part_lays (Some e) w s r j = rw (j.whole) (full_lays e w s j.part j.typed)

  turn_lays : (e : Option AnExp) → PartOf T e → (s : State) (r : Option AnExpression × State) → IsTurn names signatures e s r → R s.area r.1.area
  turn_lays None w s r j = rw j (l.same s.area)
  turn_lays (Some e) w s r j = rw (j.whole) (condition_lays e w s j.part j.typed)

  given_lays : (t : CType) (e : AnExp) → ExpOf T e → (s : State) (x : AnExpression × State) → IsGiven names signatures t e s x → R s.area x.1.area
  given_lays t e w s x j = let k = j.whole in rw (k.whole) (exp_lays T R l names signatures s.scope e w s.area j.part j.typed)

  begun_lays : (t : CType) (n : ℕ) (i : Option AnInit) → InitOf T i → (done : List ADeclaration) (s : State) (r : List ADeclaration × State) →
      IsBegun names signatures t n i done s r → R s.area r.1.area
  begun_lays t n None w done s r j = rw j (l.same s.area)
  begun_lays t n (Some (elements es comma)) w done s r j = rw j (l.same s.area)
  begun_lays t n (Some (value e)) w done s r j = rw (j.whole) (given_lays t e w s j.part j.typed)

  stored_lays : (t : CType) (o : ℕ) (e : AnExp) → ExpOf T e → (done : List ADeclaration) (s : State) (r : List ADeclaration × State) →
      IsStored names signatures t o e done s r → R s.area r.1.area
  stored_lays t o e w done s r j = rw (j.whole) (given_lays t e w s j.part j.typed)

  stores_lay : (t : CType) (o : ℕ) (es : SomeExps) → ExpsOf T es → (done : List ADeclaration) (s : State) (r : List ADeclaration × State) →
      AreStored names signatures t o es done s r → R s.area r.1.area
  stores_lay t o no_exps w done s r j = rw j (l.same s.area)
  stores_lay t o (exps e es) w done s r j =
      l.further s.area j.part.1.area r.1.area (stored_lays t o e w.0 done s j.part j.typed)
      (stores_lay t (o + size_of t) es w.1 j.part.0 j.part.1 r j.whole)

  memory_lays : (t : CType) (o : ℕ) (i : Option AnInit) → InitOf T i → (done : List ADeclaration) (s : State) (r : List ADeclaration × State) →
      IsMemoryBegun names signatures t o i done s r → R s.area r.1.area
  memory_lays t o None w done s r j = rw j (l.same s.area)
  memory_lays t o (Some (elements es comma)) w done s r j = rw j (l.same s.area)
  memory_lays t o (Some (value e)) w done s r j = stored_lays t o e w (done ++ StoreOf t o (Constant 0) ∷ []) s r j

  array_lays : (t : CType) (o : ℕ) (i : Option AnInit) → InitOf T i → (done : List ADeclaration) (s : State) (r : List ADeclaration × State) →
      IsArrayBegun names signatures t o i done s r → R s.area r.1.area
  array_lays t o None w done s r j = rw j (l.same s.area)
  array_lays t o (Some (elements es comma)) w done s r j = stores_lay t o es w done s r j
  array_lays t o (Some (value e)) w done s r j = rw j (l.same s.area)

  measured_lays : (e : AnExp) → ExpOf T e → (scope : Scope) (a : Area) (n : ℕ × Area) → IsLength names signatures scope e a n → R a n.1
  measured_lays e w scope a n j = let k = j.whole in rw (k.whole) (exp_lays T R l names signatures scope e w a j.part j.typed)

  length_lays : (c : Option AnExp) (i : Option AnInit) → PartOf T c → (s : State) (m : ℕ × State) → IsAutomaticLength names signatures c i s m →
      R s.area m.1.area
  length_lays None i w s m j = rw j (l.same s.area)
  length_lays (Some e) i w s m j = rw (j.whole) (measured_lays e w s.scope s.area j.part j.typed)

  variable_lays : (in_memory : Bool) (t : CType) (d : ADeclarator) → InitOf T (init_in d.init) → (done : List ADeclaration) (s : State)
      (r : List ADeclaration × State) → IsVariable names signatures in_memory t d done s r → R s.area r.1.area
  variable_lays true t d w done s r j = memory_lays t (offset_in (size_of t) s.room) (init_in d.init) w done (memory_variable t d s) r j
  variable_lays false t d w done s r j = begun_lays t (length s.locals) (init_in d.init) w done (with_local t d.name s) r j

  automatic_by_lays : (c : Option (Option AnExp)) → BracketsOf T c → (is_register : Bool) (t : CType) (d : ADeclarator) → InitOf T (init_in d.init) →
      (done : List ADeclaration) (s : State) (r : List ADeclaration × State) → IsAutomaticBy names signatures c is_register t d done s r →
      R s.area r.1.area
  automatic_by_lays None v is_register t d w done s r j = variable_lays (not is_register && is_next_addressed s.room) t d w done s r j
  automatic_by_lays (Some c) v is_register t d w done s r j =
      let m = j.part in
      let k = j.whole in
      let q = k.whole in
      let a = memory_array t (k.part * size_of t) d m.1 in
      rw (q.whole) (l.further s.area m.1.area q.part.1.area (length_lays c (init_in d.init) v s m j.typed)
      (array_lays t (offset_in (size_of t) m.1.room) (init_in d.init) w done a q.part q.typed))

  automatic_lays : (is_register : Bool) (spec : Spec) (d : ADeclarator) → DeclaratorOf T d → (done : List ADeclaration) (s : State)
      (r : List ADeclaration × State) → IsAutomatic names signatures is_register spec d done s r → R s.area r.1.area
  automatic_lays is_register spec d w done s r j =
      automatic_by_lays (brackets_in d.length) w.1 is_register (written spec d.stars) d w.2 done s r j.whole

  local_lays : (storage : Storage) (spec : Spec) (d : ADeclarator) → DeclaratorOf T d → (done : List ADeclaration) (s : State)
      (r : List ADeclaration × State) → InOrder any_local parameters s → IsLocal names signatures storage spec d done s r → R s.area r.1.area
  local_lays storages.Automatic spec d w done s r o j = automatic_lays false spec d w done s r j
  local_lays (storages.Register at) spec d w done s r o j = automatic_lays true spec d w done (with_register s) r j
  local_lays (storages.Static at) spec d w done s r o j = rw (j.whole) (object spec d s j.part w o j.typed)

  locals_lay : (storage : Storage) (spec : Spec) (ds : List ADeclarator) → DeclaratorsOf T ds → (done : List ADeclaration) (s : State)
      (r : List ADeclaration × State) → InOrder any_local parameters s → AreLocals names signatures storage spec ds done s r →
      R s.area r.1.area
  locals_lay storage spec [] w done s r o j = rw j (l.same s.area)
  locals_lay storage spec (d ∷ ds) w done s r o j =
      let first = local_sound names signatures any_local parameters storage spec d done s j.part o j.typed in
      l.further s.area j.part.1.area r.1.area (local_lays storage spec d w.0 done s j.part o j.typed)
      (locals_lay storage spec ds w.1 j.part.0 j.part.1 r (order_any (declaring any_local first.rest) parameters j.part.1 first.sound.order) j.whole)

  module _ (result_type : CType) where
    return_lays : (e : Option AnExp) → PartOf T e → (s : State) (r : AnAction × State) → IsReturn names signatures result_type e s r → R s.area r.1.area
    return_lays None w s r j = rw j (l.same s.area)
    return_lays (Some e) w s r j = let k = j.whole in rw (k.whole) (full_lays e w s j.part j.typed)

    mutual
      -- across a statement
      pub statement_lays : (looping : Bool) (a : AStatement) → StatementOf T a → (s : State) (r : AnAction × State) → InOrder any_local parameters s →
          IsStatement names signatures result_type looping a s r → R s.area r.1.area
      statement_lays looping (block row) w s r o j =
          rw (j.whole) (items_lay looping row w (entered s) j.part (order_entered signatures any_local parameters s o) j.typed)
      statement_lays looping empty w s r o j = rw j (l.same s.area)
      statement_lays looping (expression e) w s r o j = rw (j.whole) (full_lays e w s j.part j.typed)
      statement_lays looping (break_off at) w s r o j = rw (j.typed) (l.same s.area)
      statement_lays looping (continue_on at) w s r o j = rw (j.typed) (l.same s.area)
      statement_lays looping (give_back at e) w s r o j = return_lays e w s r j
      statement_lays looping (if_then at opened c a) w s r o j =
          let k = j.whole in
          let h = condition_sound names signatures any_local parameters c s j.part o j.typed in
          rw (k.whole) (l.further s.area j.part.1.area k.part.1.area (condition_lays c w.0 s j.part j.typed)
          (statement_lays looping a w.1 j.part.1 k.part h.order k.typed))
      statement_lays looping (if_else at opened c a other b) w s r o j =
          let k = j.whole in
          let m = k.whole in
          let h = condition_sound names signatures any_local parameters c s j.part o j.typed in
          let first = statement_sound names signatures result_type parameters any_local looping a j.part.1 k.part h.order k.typed in
          rw (m.whole) (l.further s.area j.part.1.area m.part.1.area (condition_lays c w.0 s j.part j.typed)
          (l.further j.part.1.area k.part.1.area m.part.1.area (statement_lays looping a w.1 j.part.1 k.part h.order k.typed)
          (statement_lays looping b w.2 k.part.1 m.part first.order m.typed)))
      statement_lays looping (while_loop at opened c a) w s r o j =
          let k = j.whole in
          let h = condition_sound names signatures any_local parameters c s j.part o j.typed in
          rw (k.whole) (l.further s.area j.part.1.area k.part.1.area (condition_lays c w.0 s j.part j.typed)
          (statement_lays true a w.1 j.part.1 k.part h.order k.typed))
      statement_lays looping (do_loop at a again opened c) w s r o j =
          let k = j.whole in
          rw (k.whole) (l.further s.area j.part.1.area k.part.1.area (statement_lays true a w.0 s j.part o j.typed)
          (condition_lays c w.1 j.part.1 k.part k.typed))
      statement_lays looping (for_loop at opened i c e a) w s r o j =
          let k = j.whole in
          let m = k.whole in
          let q = m.whole in
          let hi = part_sound names signatures any_local parameters i s j.part o j.typed in
          let hc = turn_sound names signatures any_local parameters c j.part.1 k.part hi.order k.typed in
          let he = part_sound names signatures any_local parameters e k.part.1 m.part hc.order m.typed in
          rw (q.whole) (l.further s.area j.part.1.area q.part.1.area (part_lays i w.0 s j.part j.typed)
          (l.further j.part.1.area k.part.1.area q.part.1.area (turn_lays c w.1 j.part.1 k.part k.typed)
          (l.further k.part.1.area m.part.1.area q.part.1.area (part_lays e w.2 k.part.1 m.part m.typed)
          (statement_lays true a w.3 m.part.1 q.part he.order q.typed))))

      -- across the items of a block
      pub items_lay : (looping : Bool) (row : SomeItems) → ItemsOf T row → (s : State) (r : SomeActions × State) → InOrder any_local parameters s →
          AreItems names signatures result_type looping row s r → R s.area r.1.area
      items_lay looping no_items w s r o j = rw j (l.same s.area)
      items_lay looping (local_item i rest) w s r o j =
          let k = j.whole in
          let h = locals_sound names signatures any_local parameters i.storage i.spec i.declarators s j.part o j.typed in
          rw (k.whole) (l.further s.area j.part.1.area k.part.1.area
          (locals_lay i.storage i.spec i.declarators w.0 [] s j.part o j.typed)
          (items_lay looping rest w.1 j.part.1 k.part (order_any (declaring any_local j.part.0) parameters j.part.1 h.order) k.typed))
      items_lay looping (statement_item a rest) w s r o j =
          let k = j.whole in
          let h = statement_sound names signatures result_type parameters any_local looping a s j.part o j.typed in
          rw (k.whole) (l.further s.area j.part.1.area k.part.1.area (statement_lays looping a w.0 s j.part o j.typed)
          (items_lay looping rest w.1 j.part.1 k.part h.order k.typed))
