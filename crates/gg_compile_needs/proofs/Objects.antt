-- Declarations add at most four to the weight of the data area for each of their tokens: a length is looked at twice.
use Rattle.std.proofs.Common.{ℕ, ◌+◌, ◌*◌, ◌≤◌, Bool, true, false, List, [], ◌∷◌, ◌++◌, length, Option, Some, None, ap, arith}
use Rattle.std.specs.Prelude.{not, ◌&&◌}
use Rattle.c_tokens.specs.declared.marks.Mark.TheVariants as marks
use Rattle.c_phrases.specs.declared.operator.Spec.{Spec}
use Rattle.c_phrases.specs.declared.operator.Storage.{Storage}
use Rattle.c_phrases.specs.declared.operator.Storage.TheVariants as storages
use Rattle.c_phrases.specs.Classes.{Placed, sign}
use Rattle.c_phrases.specs.Phrases.{AnExp, SomeExps, no_exps, exps}
use Rattle.c_phrases.specs.Spelling.{onto_exp, onto_first, onto_others, onto_name}
use Rattle.c_phrases.specs.Units.{ALength, AnInit, value, elements, AnInitialised, ADeclarator}
use Rattle.c_phrases.specs.UnitSpelling.{onto_part, onto_length, onto_trailing, onto_init, onto_initialised, onto_declarator, onto_more_declarators, onto_declarators}
use Rattle.c_types.specs.declared.types.CType.{CType}
use Rattle.c_types.specs.Types.{size_of, pointer_to}
use Rattle.c_types.specs.Typed.{AnExpression, Constant}
use Rattle.c_program.specs.Statements.{ADeclaration, StoreOf}
use Rattle.c_syntax.proofs.ExpressionLaws.{longer_exp, longer_stars}
use Rattle.c_syntax.proofs.ListLaws.{longer_length, longer_trailing, longer_init, longer_initialised}
use Rattle.c_typed_scope.specs.declared.entry.Entry.{Entry}
use Rattle.c_typed_scope.specs.declared.entry.Entry.TheVariants as entries
use Rattle.c_typed_scope.specs.declared.entry.Signature.{Signature}
use Rattle.c_typed_scope.specs.Scopes.{Scope, with_name}
use Rattle.c_typed_scope.specs.Layout.{Area}
use Rattle.c_typed_scope.specs.Contents.{Filled, filled_to}
use Rattle.c_typed_expressions.specs.Phrases.{init_in, brackets_in}
use Rattle.c_typed_expressions.specs.Expressions.{written}
use Rattle.c_typed_definition.specs.State.{State, with_area, measuring, variable_of, array_entry, with_local, with_register}
use Rattle.c_typed_definition.specs.Rooms.{offset_in, is_next_addressed}
use Rattle.c_typed_definition.specs.Automatics.{memory_variable, memory_array}
use Rattle.c_typed_law.specs.Values.{IsElement, AreElements}
use Rattle.c_typed_law.specs.Objects.{IsCount, AreLaid, HoldsAtFirst, IsFilled, IsObjectBy, IsObject}
use Rattle.c_typed_law.specs.Locals.{IsBegun, IsAutomatic, IsLocal, AreLocals, IsMemoryBegun, IsVariable, IsAutomaticBy}
use Rattle.c_typed_law.specs.Arrays.{IsGiven, IsStored, AreStored, IsArrayBegun, IsAutomaticLength}
use Rattle.gg_compile_needs.specs.Claims.{Weight}
use Rattle.gg_compile_needs.proofs.Data.{exp_adds, laid_adds, filled_keeps}

abbrev Held : Filled × Area → ℕ
Held z = Weight z.1

abbrev Laid : List ADeclaration × State → ℕ
Laid z = Weight z.1.area

-- ---- what an object holds at first: two for each token

module _ (names : List (List ℕ × Entry)) (signatures : List Signature) (scope : Scope) where
  element_adds : (t : CType) (e : AnExp) (s r : Filled × Area) → IsElement names signatures scope t e s r → (w : List Placed)
      → Weight r.1 + 2 * length w ≤ Weight s.1 + 2 * length (onto_exp e w)
  element_adds t e s r j w =
      let x = exp_adds names signatures scope e s.1 j.part j.typed w in
      let is = ap Held j.whole.whole in
      omega arith

  others_hold : (t : CType) (es : SomeExps) (s r : Filled × Area) → AreElements names signatures scope t es s r → (w : List Placed)
      → Weight r.1 + 2 * length w ≤ Weight s.1 + 2 * length (onto_others es w)
  others_hold t no_exps s r j w = let is = ap Held j in omega arith
  others_hold t (exps e es) s r j w =
      let x = element_adds t e s j.part j.typed (onto_others es w) in
      let y = others_hold t es j.part r j.whole w in
      omega arith

  firsts_hold : (t : CType) (es : SomeExps) (s r : Filled × Area) → AreElements names signatures scope t es s r → (w : List Placed)
      → Weight r.1 + 2 * length w ≤ Weight s.1 + 2 * length (onto_first es w)
  firsts_hold t no_exps s r j w = let is = ap Held j in omega arith
  firsts_hold t (exps e es) s r j w =
      let x = element_adds t e s j.part j.typed (onto_others es w) in
      let y = others_hold t es j.part r j.whole w in
      omega arith

  init_holds : (t : CType) (is_array : Bool) (i : AnInit) (a : Area) (r : Filled × Area) → HoldsAtFirst names signatures t is_array (Some i) scope a r
      → (w : List Placed) → Weight r.1 + 2 * length w ≤ Weight a + 2 * length (onto_init i w)
  init_holds t is_array (elements es trailing) a r j w =
      let v : List Placed = sign marks.CloseBrace 0 ∷ w in
      let x = firsts_hold t es (record { bytes = []; links = [] }, a) r j (onto_trailing trailing v) in
      omega (arith, longer_trailing trailing v)
  init_holds t true (value e) a r j w = let is = ap Held j in omega (arith, longer_exp e w)
  init_holds t false (value e) a r j w = element_adds t e (record { bytes = []; links = [] }, a) r j w

  initialised_holds : (t : CType) (is_array : Bool) (i : Option AnInitialised) (a : Area) (r : Filled × Area)
      → HoldsAtFirst names signatures t is_array (init_in i) scope a r → (w : List Placed)
      → Weight r.1 + 2 * length w ≤ Weight a + 2 * length (onto_initialised i w)
  initialised_holds t is_array None a r j w = let is = ap Held j in omega arith
  initialised_holds t is_array (Some i) a r j w = let x = init_holds t is_array i.with_init a r j w in omega arith

  -- a length, where it is measured and where its literals are laid
  count_adds : (e : Option AnExp) (i : Option AnInit) (a : Area) (m : ℕ × Area) → IsCount names signatures e i scope a m → (w : List Placed)
      → Weight m.1 + 2 * length w ≤ Weight a + 2 * length (onto_part e w)
  count_adds None i a m j w = let is = ap (λ (z : ℕ × Area). Weight z.1) j in omega arith
  count_adds (Some e) i a m j w =
      let k = j.typed in
      let x = exp_adds names signatures scope e (measuring true a) k.part k.typed w in
      let same = ap (λ (z : ℕ × Area). Weight z.1) k.whole.whole in
      let is = ap (λ (z : ℕ × Area). Weight z.1) j.whole in
      omega arith

  length_adds : (e : Option AnExp) (a b : Area) → AreLaid names signatures e scope a b → (w : List Placed)
      → Weight b + 2 * length w ≤ Weight a + 2 * length (onto_part e w)
  length_adds None a b j w = let is = ap Weight j in omega arith
  length_adds (Some e) a b j w =
      let x = exp_adds names signatures scope e a j.part j.typed w in
      let is = ap Weight j.whole in
      omega arith

-- ---- objects

module _ (names : List (List ℕ × Entry)) (signatures : List Signature) where
  filled_adds : (n size : ℕ) (t : CType) (is_array : Bool) (d : ADeclarator) (e : Entry) (s : State) (r : ℕ × State)
      → IsFilled names signatures n size t is_array d e s r → (w : List Placed)
      → Weight r.1.area + 2 * length w ≤ Weight s.area + 2 * length (onto_initialised d.init w)
  filled_adds n size t is_array d e s r j w =
      let k = j.typed in
      let x = initialised_holds names signatures (with_name d.name e s.scope) t is_array d.init s.area k.part k.typed w in
      let keeps = filled_keeps n (filled_to size k.part.0) k.part.1 in
      let same = ap Weight k.whole in
      let is = ap (λ (z : ℕ × State). Weight z.1.area) j.whole in
      omega arith

  by_length_adds : (is_static : Bool) (t : CType) (d : ADeclarator) (l : Option ALength) (s : State) (r : ℕ × State)
      → IsObjectBy names signatures is_static t d (brackets_in l) s r → (w : List Placed)
      → Weight r.1.area + 4 * length w ≤ 2 + Weight s.area + 4 * length (onto_length l (onto_initialised d.init w))
  by_length_adds is_static t d None s r j w =
      let q = j.part in
      let e : Entry = entries.Variable t (variable_of is_static q.0) in
      let x = laid_adds is_static d.at d.name (size_of t) (size_of t) s.area q j.typed in
      let y = filled_adds q.0 (size_of t) t false d e (with_area q.1 s) r j.whole w in
      let z = longer_initialised d.init w in
      omega arith
  by_length_adds is_static t d (Some l) s r j w =
      let v : List Placed = onto_initialised d.init w in
      let n = j.whole.part in
      let k = j.whole.whole in
      let q = k.part in
      let m = k.whole in
      let e : Entry = array_entry (pointer_to t) (variable_of is_static q.0) (n * size_of t) in
      let measured = count_adds names signatures s.scope l.value (init_in d.init) s.area j.part j.typed (sign marks.CloseBracket 0 ∷ v) in
      let x = laid_adds is_static d.at d.name (size_of t) (n * size_of t) j.part.1 q k.typed in
      let laid = length_adds names signatures s.scope l.value q.1 m.part m.typed (sign marks.CloseBracket 0 ∷ v) in
      let y = filled_adds q.0 (n * size_of t) t true d e (with_area m.part s) r m.whole w in
      let z = longer_initialised d.init w in
      omega arith

  pub object_adds : (is_static : Bool) (spec : Spec) (d : ADeclarator) (s : State) (r : ℕ × State) → IsObject names signatures is_static spec d s r
      → (w : List Placed) → Weight r.1.area + 4 * length w ≤ Weight s.area + 4 * length (onto_declarator d w)
  object_adds is_static spec d s r j w =
      let x = by_length_adds is_static (written spec d.stars) d d.length s r j.whole w in
      omega (arith, longer_stars d.stars (onto_name d.name d.at (onto_length d.length (onto_initialised d.init w))))

  -- ---- automatic locals

  given_adds : (t : CType) (e : AnExp) (s : State) (x : AnExpression × State) → IsGiven names signatures t e s x → (w : List Placed)
      → Weight x.1.area + 2 * length w ≤ Weight s.area + 2 * length (onto_exp e w)
  given_adds t e s x j w =
      let y = exp_adds names signatures s.scope e s.area j.part j.typed w in
      let is = ap (λ (z : AnExpression × State). Weight z.1.area) j.whole.whole in
      omega arith

  init_adds : (t : CType) (n : ℕ) (i : AnInit) (done : List ADeclaration) (s : State) (r : List ADeclaration × State)
      → IsBegun names signatures t n (Some i) done s r → (w : List Placed) → Weight r.1.area + 2 * length w ≤ Weight s.area + 2 * length (onto_init i w)
  init_adds t n (elements es trailing) done s r j w =
      let is = ap Laid j in
      omega (arith, longer_init (elements es trailing) w)
  init_adds t n (value e) done s r j w =
      let x = given_adds t e s j.part j.typed w in
      let is = ap Laid j.whole in
      omega arith

  begun_adds : (t : CType) (n : ℕ) (i : Option AnInitialised) (done : List ADeclaration) (s : State) (r : List ADeclaration × State)
      → IsBegun names signatures t n (init_in i) done s r → (w : List Placed)
      → Weight r.1.area + 2 * length w ≤ Weight s.area + 2 * length (onto_initialised i w)
  begun_adds t n None done s r j w = let is = ap Laid j in omega arith
  begun_adds t n (Some i) done s r j w = let x = init_adds t n i.with_init done s r j w in omega arith

  -- ---- memory locals

  stored_adds : (t : CType) (o : ℕ) (e : AnExp) (done : List ADeclaration) (s : State) (r : List ADeclaration × State)
      → IsStored names signatures t o e done s r → (w : List Placed) → Weight r.1.area + 2 * length w ≤ Weight s.area + 2 * length (onto_exp e w)
  stored_adds t o e done s r j w =
      let x = given_adds t e s j.part j.typed w in
      let is = ap Laid j.whole in
      omega arith

  others_stored : (t : CType) (o : ℕ) (es : SomeExps) (done : List ADeclaration) (s : State) (r : List ADeclaration × State)
      → AreStored names signatures t o es done s r → (w : List Placed) → Weight r.1.area + 2 * length w ≤ Weight s.area + 2 * length (onto_others es w)
  others_stored t o no_exps done s r j w = let is = ap Laid j in omega arith
  others_stored t o (exps e es) done s r j w =
      let x = stored_adds t o e done s j.part j.typed (onto_others es w) in
      let y = others_stored t (o + size_of t) es j.part.0 j.part.1 r j.whole w in
      omega arith

  firsts_stored : (t : CType) (o : ℕ) (es : SomeExps) (done : List ADeclaration) (s : State) (r : List ADeclaration × State)
      → AreStored names signatures t o es done s r → (w : List Placed) → Weight r.1.area + 2 * length w ≤ Weight s.area + 2 * length (onto_first es w)
  firsts_stored t o no_exps done s r j w = let is = ap Laid j in omega arith
  firsts_stored t o (exps e es) done s r j w =
      let x = stored_adds t o e done s j.part j.typed (onto_others es w) in
      let y = others_stored t (o + size_of t) es j.part.0 j.part.1 r j.whole w in
      omega arith

  memory_init_adds : (t : CType) (o : ℕ) (i : AnInit) (done : List ADeclaration) (s : State) (r : List ADeclaration × State)
      → IsMemoryBegun names signatures t o (Some i) done s r → (w : List Placed)
      → Weight r.1.area + 2 * length w ≤ Weight s.area + 2 * length (onto_init i w)
  memory_init_adds t o (elements es trailing) done s r j w =
      let is = ap Laid j in
      omega (arith, longer_init (elements es trailing) w)
  memory_init_adds t o (value e) done s r j w = stored_adds t o e (done ++ StoreOf t o (Constant 0) ∷ []) s r j w

  memory_adds : (t : CType) (o : ℕ) (i : Option AnInitialised) (done : List ADeclaration) (s : State) (r : List ADeclaration × State)
      → IsMemoryBegun names signatures t o (init_in i) done s r → (w : List Placed)
      → Weight r.1.area + 2 * length w ≤ Weight s.area + 2 * length (onto_initialised i w)
  memory_adds t o None done s r j w = let is = ap Laid j in omega arith
  memory_adds t o (Some i) done s r j w = let x = memory_init_adds t o i.with_init done s r j w in omega arith

  array_init_adds : (t : CType) (o : ℕ) (i : AnInit) (done : List ADeclaration) (s : State) (r : List ADeclaration × State)
      → IsArrayBegun names signatures t o (Some i) done s r → (w : List Placed)
      → Weight r.1.area + 2 * length w ≤ Weight s.area + 2 * length (onto_init i w)
  array_init_adds t o (elements es trailing) done s r j w =
      let v : List Placed = sign marks.CloseBrace 0 ∷ w in
      let x = firsts_stored t o es done s r j (onto_trailing trailing v) in
      omega (arith, longer_trailing trailing v)
  array_init_adds t o (value e) done s r j w =
      let is = ap Laid j in
      omega (arith, longer_exp e w)

  array_adds : (t : CType) (o : ℕ) (i : Option AnInitialised) (done : List ADeclaration) (s : State) (r : List ADeclaration × State)
      → IsArrayBegun names signatures t o (init_in i) done s r → (w : List Placed)
      → Weight r.1.area + 2 * length w ≤ Weight s.area + 2 * length (onto_initialised i w)
  array_adds t o None done s r j w = let is = ap Laid j in omega arith
  array_adds t o (Some i) done s r j w = let x = array_init_adds t o i.with_init done s r j w in omega arith

  measured_adds : (l : Option AnExp) (i : Option AnInit) (s : State) (m : ℕ × State) → IsAutomaticLength names signatures l i s m → (w : List Placed)
      → Weight m.1.area + 2 * length w ≤ Weight s.area + 2 * length (onto_part l w)
  measured_adds None i s m j w = let is = ap (λ (z : ℕ × State). Weight z.1.area) j in omega arith
  measured_adds (Some e) i s m j w =
      let k = j.typed in
      let x = exp_adds names signatures s.scope e s.area k.part k.typed w in
      let same = ap (λ (z : ℕ × Area). Weight z.1) k.whole.whole in
      let is = ap (λ (z : ℕ × State). Weight z.1.area) j.whole in
      omega arith

  variable_adds : (in_memory : Bool) (t : CType) (d : ADeclarator) (done : List ADeclaration) (s : State) (r : List ADeclaration × State)
      → IsVariable names signatures in_memory t d done s r → (w : List Placed)
      → Weight r.1.area + 2 * length w ≤ Weight s.area + 2 * length (onto_initialised d.init w)
  variable_adds true t d done s r j w = memory_adds t (offset_in (size_of t) s.room) d.init done (memory_variable t d s) r j w
  variable_adds false t d done s r j w = begun_adds t (length s.locals) d.init done (with_local t d.name s) r j w

  automatic_by_adds : (l : Option ALength) (is_register : Bool) (t : CType) (d : ADeclarator) (done : List ADeclaration) (s : State)
      (r : List ADeclaration × State) → IsAutomaticBy names signatures (brackets_in l) is_register t d done s r → (w : List Placed)
      → Weight r.1.area + 2 * length w ≤ Weight s.area + 2 * length (onto_length l (onto_initialised d.init w))
  automatic_by_adds None is_register t d done s r j w = variable_adds (not is_register && is_next_addressed s.room) t d done s r j w
  automatic_by_adds (Some l) is_register t d done s r j w =
      let v : List Placed = onto_initialised d.init w in
      let m = j.part in
      let k = j.whole in
      let q = k.whole in
      let x = measured_adds l.value (init_in d.init) s m j.typed (sign marks.CloseBracket 0 ∷ v) in
      let y = array_adds t (offset_in (size_of t) m.1.room) d.init done (memory_array t (k.part * size_of t) d m.1) q.part q.typed w in
      let is = ap Laid q.whole in
      omega arith

  automatic_adds : (is_register : Bool) (spec : Spec) (d : ADeclarator) (done : List ADeclaration) (s : State) (r : List ADeclaration × State)
      → IsAutomatic names signatures is_register spec d done s r → (w : List Placed)
      → Weight r.1.area + 4 * length w ≤ Weight s.area + 4 * length (onto_declarator d w)
  automatic_adds is_register spec d done s r j w =
      let v : List Placed = onto_initialised d.init w in
      let x = automatic_by_adds d.length is_register (written spec d.stars) d done s r j.whole w in
      let grows = longer_initialised d.init w in
      omega (arith, longer_stars d.stars (onto_name d.name d.at (onto_length d.length v)), longer_length d.length v)

  local_adds : (storage : Storage) (spec : Spec) (d : ADeclarator) (done : List ADeclaration) (s : State) (r : List ADeclaration × State)
      → IsLocal names signatures storage spec d done s r → (w : List Placed)
      → Weight r.1.area + 4 * length w ≤ Weight s.area + 4 * length (onto_declarator d w)
  local_adds storages.Automatic spec d done s r j w = automatic_adds false spec d done s r j w
  local_adds (storages.Register at) spec d done s r j w = automatic_adds true spec d done (with_register s) r j w
  local_adds (storages.Static at) spec d done s r j w =
      let x = object_adds true spec d s j.part j.typed w in
      let is = ap Laid j.whole in
      omega arith

  locals_add : (storage : Storage) (spec : Spec) (ds : List ADeclarator) (done : List ADeclaration) (s : State) (r : List ADeclaration × State)
      → AreLocals names signatures storage spec ds done s r → (w : List Placed)
      → Weight r.1.area + 4 * length w ≤ Weight s.area + 4 * length (onto_more_declarators ds w)
  locals_add storage spec [] done s r j w = let is = ap (λ (z : List ADeclaration × State). Weight z.1.area) j in omega arith
  locals_add storage spec (d ∷ ds) done s r j w =
      let x = local_adds storage spec d done s j.part j.typed (onto_more_declarators ds w) in
      let y = locals_add storage spec ds j.part.0 j.part.1 r j.whole w in
      omega arith

  pub declarators_add : (storage : Storage) (spec : Spec) (ds : List ADeclarator) (s : State) (r : List ADeclaration × State)
      → AreLocals names signatures storage spec ds [] s r → (w : List Placed)
      → Weight r.1.area + 4 * length w ≤ Weight s.area + 4 * length (onto_declarators ds w)
  declarators_add storage spec [] s r j w = let is = ap (λ (z : List ADeclaration × State). Weight z.1.area) j in omega arith
  declarators_add storage spec (d ∷ ds) s r j w =
      let x = local_adds storage spec d [] s j.part j.typed (onto_more_declarators ds w) in
      let y = locals_add storage spec ds j.part.0 j.part.1 r j.whole w in
      omega arith
