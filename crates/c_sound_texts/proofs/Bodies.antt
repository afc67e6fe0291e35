-- The statements of each function fit and stand, since each begins where what is in scope is in order.
use Rattle.std.proofs.Common.{◌≡◌, ℕ, ◌+◌, ◌<◌, ◌≤◌, Bool, true, false, List, length, map, Option, Some, None, inl, inr, refl, sym, ap, subst, ◌∙◌, arith}
use Rattle.std.proofs.lemmas.List.{length-map}
use Rattle.std.proofs.lemmas.Bool.{ltb-false}
use Rattle.std.specs.Prelude.{is_some, slice_get, if◌then◌else◌}
use Rattle.std.proofs.Common.{◌∷◌, []}
use Rattle.gg_base.proofs.Facts.{slice_cases}
use Rattle.tree_core.specs.Locals.{LocalsStand}
use Rattle.c_phrases.specs.declared.operator.Spec.{Spec}
use Rattle.c_phrases.specs.declared.tree.Named.{Named}
use Rattle.c_phrases.specs.Phrases.{AnExp}
use Rattle.c_phrases.specs.Units.{SomeItems, ADeclarator, AParam, AFunction, ADeclared, function, globals, AnExternal}
use Rattle.c_types.specs.declared.types.CType.{CType}
use Rattle.c_types.specs.Types.{size_of, is_scalar}
use Rattle.c_types.specs.declared.typed.Variable.{Variable}
use Rattle.c_types.specs.declared.typed.Variable.TheVariants as variables
use Rattle.c_typed_scope.specs.declared.entry.Entry.{Entry}
use Rattle.c_typed_scope.specs.declared.entry.Entry.TheVariants as entries
use Rattle.c_typed_scope.specs.declared.entry.Signature.{Signature}
use Rattle.c_typed_scope.specs.Scopes.{Scope, enter}
use Rattle.c_typed_scope.specs.Layout.{Area, aligned}
use Rattle.c_program.specs.Programs.{ARoutine}
use Rattle.c_sound_bodies.specs.c_typed_words.specs.Words.{IsToken}
use Rattle.c_sound_bodies.specs.c_typed_words.specs.Phrases.{BodyOf, DeclaredOf, ExternalsOf}
use Rattle.c_sound.specs.Fits.{FitsActs, no_local}
use Rattle.c_sound.specs.Stands.{IsThere, Takes, StandsActs}
use Rattle.c_sound.proofs.Registers.{no_locals}
use Rattle.c_typed_expressions.specs.Phrases.{brackets_in, params_in}
use Rattle.c_typed_expressions.specs.Expressions.{written}
use Rattle.c_sound_bodies.specs.c_typed_definition.specs.Rooms.{Room, offset_in, taking, is_parameter_addressed, parameter_store, with_parameter_in}
use Rattle.c_sound_bodies.specs.c_typed_definition.specs.State.{State, with_area, named_state, with_room}
use Rattle.c_sound_bodies.specs.c_typed_definition.specs.Signatures.{parameter_type}
use Rattle.c_sound_bodies.specs.c_typed_definition.specs.Headings.{Text, with_parameter, with_state, with_declared, with_body}
use Rattle.c_sound_bodies.specs.c_typed_definition.specs.Bodies.{routine_of, entered_function, left_function}
use Rattle.c_sound_bodies.specs.c_typed_law.specs.Texts.{IsParameterLength, AreParameters, IsBody, IsFunction, AreGlobals, IsExternalBy}
use Rattle.c_sound_bodies.specs.c_typed_law.specs.Texts.{AreExternals}
use Rattle.c_sound_bodies.specs.c_typed_law.proofs.Statements.{items_mean}
use Rattle.c_sound_bodies.specs.c_typed_law.proofs.Objects.{object_means}
use Rattle.c_sound_bodies.specs.States.{IsKnown, OfVariable, InOrder, Extends}
use Rattle.c_sound_bodies.specs.Claim.{AreDefined}
use Rattle.c_sound_bodies.proofs.Names.{scope_more, scope_named, scope_entered, named_outer, left_scope}
use Rattle.c_sound_bodies.proofs.Growth.{extends_same, extends_further}
use Rattle.c_sound_bodies.proofs.Objects.{length_extends, objects_are_sound}
use Rattle.c_sound_bodies.proofs.Steps.{grows_area, order_more}
use Rattle.c_sound_bodies.proofs.Rooms.{some_bytes, taken, memory_order}
use Rattle.c_sound_bodies.proofs.Law.{bodies_are_sound}
use Rattle.c_sound_texts.proofs.Stores.{AreStores, stores_more, stores_push, stored_fits, stored_stands, four_above, four_within, parameter_scalar}

-- a typed function, where there are so many objects
pub record RoutineIsSound (signatures : List Signature) (objects : ℕ) (g : ARoutine) : Type 0 where
  pub fits : FitsActs (length g.locals) no_local false g.body
  pub registers : LocalsStand (length g.locals) g.registers
  pub stands : (gs : List ARoutine) (many : ℕ) → objects ≤ many → AreDefined signatures gs →
      StandsActs (IsThere many (length g.parameters) g.block) (Takes gs) many g.body
  pub parameters : length g.parameters ≤ 32
  pub block : g.block ≤ 262144

-- what is in scope at file level is in order, without memory locals, and so is each function so far
pub record TextIsSound (signatures : List Signature) (t : Text) : Type 0 where
  pub order : InOrder no_local 0 t.state
  pub room : t.state.room.length ≡ 0
  pub routines : (i : ℕ) (g : ARoutine) → slice_get t.bodies i ≡ Some g → RoutineIsSound signatures (length t.state.area.objects) g

routine_more : (signatures : List Signature) (objects many : ℕ) (g : ARoutine) → objects ≤ many → RoutineIsSound signatures objects g →
    RoutineIsSound signatures many g
routine_more signatures objects many g le h = record {
  fits = h.fits;
  registers = h.registers;
  stands = λ gs more further defined. h.stands gs more (omega arith) defined;
  parameters = h.parameters;
  block = h.block;
}

-- of a variable that is in scope at file level, where a function begins
begins_known : (locals count parameters objects many block room : ℕ) → objects ≤ many → block ≡ 0 → (v : Variable) (size : ℕ) →
    IsKnown no_local locals 0 objects block v size → IsKnown no_local count parameters many room v size
begins_known locals count parameters objects many block room le none (variables.Automatic n) size h = absurd h.0
begins_known locals count parameters objects many block room le none (variables.Parameter n) size h = let below : n < 0 = h.0 in absurd (omega arith)
begins_known locals count parameters objects many block room le none (variables.Global n) size h =
    let below : n < objects = h.0 in (omega arith, h.1)
begins_known locals count parameters objects many block room le none (variables.Static n) size h =
    let below : n < objects = h.0 in (omega arith, h.1)
begins_known locals count parameters objects many block room le none (variables.InBlock o) size h = let below : o < block = h.0 in absurd (omega arith)

pub function_begins : (f : AFunction) (parameters : ℕ) (s : State) → InOrder no_local 0 s → s.room.length ≡ 0 →
    InOrder no_local parameters (entered_function f s)
function_begins f parameters s o none = record {
  names = λ small. scope_entered (IsKnown no_local 0 parameters (length s.area.objects) 0) s.scope
      (scope_more (IsKnown no_local (length s.locals) 0 (length s.area.objects) s.room.length) (IsKnown no_local 0 parameters (length s.area.objects) 0)
      s.scope (begins_known (length s.locals) 0 parameters (length s.area.objects) (length s.area.objects) s.room.length 0 (omega arith) none)
      (o.names (omega arith)));
  laying = o.laying;
}

-- where it ends, in scope is what was in scope before
function_ends : (s r : State) → InOrder no_local 0 s → s.room.length ≡ 0 → Extends s.area r.area → r.scope.outer ≡ (enter s.scope).outer →
    InOrder no_local 0 (left_function r)
function_ends s r o none h outer = record {
  names = λ small. rw (left_scope s.scope r.scope outer)
      (scope_more (IsKnown no_local (length s.locals) 0 (length s.area.objects) s.room.length) (IsKnown no_local 0 0 (length r.area.objects) 0) s.scope
      (begins_known (length s.locals) 0 0 (length s.area.objects) (length r.area.objects) s.room.length 0 h.objects none) (o.names (omega arith)));
  laying = h.measuring ∙ o.laying;
}

-- another name in scope
named_order : (parameters : ℕ) (n : List ℕ) (e : Entry) (s : State) → InOrder no_local parameters s →
    OfVariable (IsKnown no_local (length s.locals) parameters (length s.area.objects) s.room.length) e → InOrder no_local parameters (named_state n e s)
named_order parameters n e s o of = record {
  names = λ small. scope_named (IsKnown no_local (length s.locals) parameters (length s.area.objects) s.room.length) s.scope n e (o.names small) of;
  laying = o.laying;
}

-- the parameters in the block so far
abbrev StoresStand : ℕ → State → Type 0
StoresStand parameters s = s.room.length ≤ 262144 → AreStores parameters s.room.length s.room.stores

-- parameters that are declared
pub record Parametered (parameters : ℕ) (s r : State) : Type 0 where
  pub order : InOrder no_local parameters r
  pub locals : r.locals ≡ s.locals
  pub registers : r.registers ≡ s.registers
  pub area : Extends s.area r.area
  pub outer : r.scope.outer ≡ s.scope.outer
  pub stores : StoresStand parameters s → StoresStand parameters r

parametered_same : (parameters : ℕ) (s : State) → InOrder no_local parameters s → Parametered parameters s s
parametered_same parameters s o =
    record { order = o; locals = refl; registers = refl; area = extends_same s.area; outer = refl; stores = λ h. h }

parametered_further : (parameters : ℕ) (s m r : State) → Parametered parameters s m → Parametered parameters m r → Parametered parameters s r
parametered_further parameters s m r h k = record {
  order = k.order;
  locals = k.locals ∙ h.locals;
  registers = k.registers ∙ h.registers;
  area = extends_further s.area m.area r.area h.area k.area;
  outer = k.outer ∙ h.outer;
  stores = λ x. k.stores (h.stores x);
}

-- a parameter in the block
stored_parameter : (n : List ℕ) (t : CType) (k parameters : ℕ) (s : State) → k < parameters → is_scalar t ≡ true → InOrder no_local parameters s →
    Parametered parameters s (with_room (with_parameter_in t k s.room)
    (named_state n (entries.Variable t (variables.InBlock (offset_in (size_of t) s.room))) s))
stored_parameter n t k parameters s below scalar o =
    let z = size_of t in
    let at = offset_in (size_of t) s.room in
    let e = entries.Variable t (variables.InBlock at) in
    let end = (taking (size_of t) (size_of t) s.room).length in
    let some = some_bytes t scalar in
    let within : end ≤ 262144 → at < end = λ small.
    let last : at + z ≤ end = (taken t z s.room scalar small).end in omega arith in
    let before : end ≤ 262144 → s.room.length ≤ end = λ small.
    let h = taken t z s.room scalar small in
    let first : s.room.length ≤ at = h.behind in
    let last : at + z ≤ end = h.end in omega arith in
    let inside = memory_order t z n e s scalar no_local parameters o (λ small. let lies : at < end = within small in (lies, omega arith)) in
    record {
      order = record { names = inside.names; laying = inside.laying };
      locals = refl;
      registers = refl;
      area = extends_same s.area;
      outer = named_outer n e s.scope;
      stores = λ h small. let le : s.room.length ≤ end = before small in
          stores_push parameters end s.room.stores (parameter_store t k at)
          (stores_more parameters s.room.length end s.room.stores le (h (omega arith)))
          (record { type = t; number = k; offset = at; scalar = scalar; below = below; lies = within small; is = refl });
    }

parameter_by : (in_memory : Bool) (n : List ℕ) (t : CType) (k parameters : ℕ) (s : State) → k < parameters → is_scalar t ≡ true →
    InOrder no_local parameters s → Parametered parameters s (if in_memory
    then with_room (with_parameter_in t k s.room) (named_state n (entries.Variable t (variables.InBlock (offset_in (size_of t) s.room))) s)
    else named_state n (entries.Variable t (variables.Parameter k)) s)
parameter_by true n t k parameters s below scalar o = stored_parameter n t k parameters s below scalar o
parameter_by false n t k parameters s below scalar o = record {
  order = named_order parameters n (entries.Variable t (variables.Parameter k)) s o (below, omega arith);
  locals = refl;
  registers = refl;
  area = extends_same s.area;
  outer = named_outer n (entries.Variable t (variables.Parameter k)) s.scope;
  stores = λ h. h;
}

with_parameter_is : (name : Option Named) (t : CType) (n parameters : ℕ) (s : State) → n < parameters → is_scalar t ≡ true →
    InOrder no_local parameters s → Parametered parameters s (with_parameter name t n s)
with_parameter_is None t n parameters s below scalar o = parametered_same parameters s o
with_parameter_is (Some name) t n parameters s below scalar o =
    parameter_by (is_parameter_addressed n s.room) name.name t n parameters s below scalar o

area_is : (parameters : ℕ) (s : State) (a : Area) → Extends s.area a → InOrder no_local parameters s →
    Parametered parameters s (with_area a s)
area_is parameters s a h o = record {
  order = order_more no_local parameters s (with_area a s) o refl (grows_area s a h);
  locals = refl;
  registers = refl;
  area = h;
  outer = refl;
  stores = λ k. k;
}

-- global variables that are declared
record Globals (s r : State) : Type 0 where
  order : InOrder no_local 0 r
  room : r.room ≡ s.room
  extends : Extends s.area r.area

module _ (names : List (List ℕ × Entry)) (signatures : List Signature) where
  parameter_length_extends : (l : Option (Option AnExp)) (scope : Scope) (a b : Area) → IsParameterLength names signatures l scope a b →
      Extends a b
  parameter_length_extends None scope a b j = rw j (extends_same a)
  parameter_length_extends (Some None) scope a b j = rw j (extends_same a)
  parameter_length_extends (Some (Some e)) scope a b j =
      rw (j.whole) (length_extends names signatures scope e a j.part j.typed)

  pub parameters_order : (parameters : ℕ) (defines : Bool) (ps : List AParam) (n : ℕ) (s r : State) → n + length ps ≤ parameters →
      InOrder no_local parameters s → AreParameters names signatures defines ps n s r → Parametered parameters s r
  parameters_order parameters defines [] n s r le o j = rw j (parametered_same parameters s o)
  parameters_order parameters defines (p ∷ ps) n s r le o j =
      let i = j.typed in
      let k = i.whole in
      let longer = area_is parameters s k.part (parameter_length_extends (brackets_in p.length) s.scope s.area k.part k.typed) o in
      let scalar = parameter_scalar defines p s.scope i.part i.typed in
      let named = with_parameter_is p.name (parameter_type p) n parameters (with_area k.part s) (omega arith) scalar longer.order in
      let here : Parametered parameters s j.part =
      rw (k.whole) (parametered_further parameters s (with_area k.part s) _ longer named) in
      parametered_further parameters s j.part r here (parameters_order parameters defines ps (n + 1) j.part r (omega arith) here.order j.whole)

  ended : (t r : Text) (s : State) → TextIsSound signatures t → Extends t.state.area s.area → s.scope.outer ≡ (enter t.state.scope).outer →
      r ≡ with_state (left_function s) t → TextIsSound signatures r
  ended t r s h e outer is = rw is (record {
    order = function_ends t.state s h.order h.room e outer;
    room = refl;
    routines = λ i g here. routine_more signatures (length t.state.area.objects) (length s.area.objects) g e.objects (h.routines i g here);
  })

  one_more : (t r : Text) (b : ARoutine) → TextIsSound signatures t → RoutineIsSound signatures (length t.state.area.objects) b →
      r ≡ with_body b t → TextIsSound signatures r
  one_more t r b h one is = rw is (record {
    order = h.order;
    room = h.room;
    routines = λ i g here. elim (slice_cases t.bodies b i g here) [ inl x ↦ h.routines i g x | inr x ↦ rw (x.1) one ];
  })

  body_sound : (spec : Spec) (f : AFunction) (o : Option SomeItems) → BodyOf IsToken o → (s : State) (t r : Text) →
      length (map parameter_type (params_in f.params)) ≤ 32 →
      Parametered (length (map parameter_type (params_in f.params))) (entered_function f t.state) s → TextIsSound signatures t →
      IsBody names signatures spec f o s t r → TextIsSound signatures r
  body_sound spec f None w s t r few p h j = ended t r s h p.area p.outer j
  body_sound spec f (Some row) w s t r few p h j =
      let x = j.part in
      let k = j.whole in
      let parameters = length (map parameter_type (params_in f.params)) in
      let block = aligned x.1.room.length 4 in
      let sound = bodies_are_sound names signatures (written spec f.stars) false row parameters s x.1 x.0 p.order
      ((items_mean names signatures (written spec f.stars) false row s).only x j.typed) in
      let grows = sound.grows in
      let small : x.1.room.length ≤ 262144 = ltb-false 262144 x.1.room.length k.fails in
      let above = four_above x.1.room.length in
      let limit = four_within x.1.room.length small in
      let longer : s.room.length ≤ x.1.room.length = grows.room small in
      let stores = subst (AreStores parameters block) (sym grows.stores)
      (stores_more parameters s.room.length block s.room.stores (omega arith) (p.stores (λ l. tt) (omega arith))) in
      let area = extends_further t.state.area s.area x.1.area p.area grows.area in
      let outer = grows.outer ∙ p.outer in
      let behind = ended t (with_state (left_function x.1) t) x.1 h area outer refl in
      one_more (with_state (left_function x.1) t) r (routine_of spec f x.1 x.0) behind (record {
        fits = stored_fits (length x.1.locals) parameters block no_local false x.1.room.stores x.0 stores
            (sound.fits (length x.1.locals) (record { locals = omega arith; block = small }) w);
        registers = grows.registers (rw (p.registers) (no_locals (length s.locals)));
        stands = λ gs many le defined. stored_stands many parameters block gs x.1.room.stores x.0 stores
            (sound.stands gs many block (record { objects = le; block = above; limit = limit }) defined);
        parameters = few;
        block = limit;
      }) k.typed

  pub declared_sound : (earlier : Option ℕ) (spec : Spec) (f : AFunction) (t : Text) → TextIsSound signatures t →
      TextIsSound signatures (with_declared earlier spec f t)
  declared_sound (Some n) spec f t h = h
  declared_sound None spec f t h = record {
    order = named_order 0 f.name (entries.Function (length t.declared)) t.state h.order tt;
    room = h.room;
    routines = h.routines;
  }

  function_sound : (spec : Spec) (f : AFunction) → DeclaredOf IsToken (function f) → (t r : Text) → TextIsSound signatures t → IsFunction names signatures spec f t r →
      TextIsSound signatures r
  function_sound spec f w t r h j =
      let i = j.whole in
      let m = i.whole in
      let q = m.whole in
      let u = with_declared j.part spec f t in
      let parameters = length (map parameter_type (params_in f.params)) in
      let many : length (map parameter_type (params_in f.params)) ≡ length (params_in f.params) =
      length-map (params_in f.params) parameter_type in
      let k = declared_sound j.part spec f t h in
      let p = parameters_order parameters (is_some f.body) (params_in f.params) 0 (entered_function f u.state) m.part (omega arith)
      (function_begins f parameters u.state k.order k.room) m.typed in
      body_sound spec f f.body w.2 m.part u r (ltb-false 32 parameters q.typed.fails) p k q.whole

  globals_sound : (spec : Spec) (ds : List ADeclarator) (s r : State) → InOrder no_local 0 s → AreGlobals names signatures spec ds s r →
      Globals s r
  globals_sound spec [] s r o j = rw j (record { order = o; room = refl; extends = extends_same s.area })
  globals_sound spec (d ∷ ds) s r o j =
      let x = j.part in
      let one = objects_are_sound names signatures false spec d 0 x.0 s x.1 o
      ((object_means names signatures false spec d s).only x j.typed) in
      let rest = globals_sound spec ds x.1 r one.order j.whole in
      let first = one.grows in
      record { order = rest.order; room = rest.room ∙ one.room; extends = extends_further s.area x.1.area r.area first.area rest.extends }

  pub external_sound : (spec : Spec) (d : ADeclared) → DeclaredOf IsToken d → (t r : Text) → TextIsSound signatures t → IsExternalBy names signatures spec d t r →
      TextIsSound signatures r
  external_sound spec (function f) w t r h j = function_sound spec f w t r h j
  external_sound spec (globals ds) w t r h j =
      let s = j.part in
      let g = globals_sound spec ds t.state s h.order j.typed in
      rw (j.whole) (record {
        order = g.order;
        room = ap (λ (z : Room). z.length) g.room ∙ h.room;
        routines = λ i b here.
            routine_more signatures (length t.state.area.objects) (length s.area.objects) b g.extends.objects (h.routines i b here);
      })

  pub externals_sound : (es : List AnExternal) → ExternalsOf IsToken es → (t r : Text) → TextIsSound signatures t → AreExternals names signatures es t r →
      TextIsSound signatures r
  externals_sound [] w t r h j = rw j h
  externals_sound (e ∷ es) w t r h j =
      externals_sound es w.1 j.part r (external_sound e.spec e.declared w.0 t j.part h j.typed) j.whole
